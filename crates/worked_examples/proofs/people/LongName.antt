-- A name of 21 characters: no smaller rule is broken, and this rule nowhere else.
use Rattle.std.proofs.Common.{◌≡◌, ◌⊎◌, inl, inr, ℕ, ◌≤◌, List, [], ◌∷◌, refl, sym, ap, subst, ◌∙◌, arith}
use Rattle.std.specs.Prelude.{pos}
use Rattle.std.proofs.lemmas.Int.{ints}
use Rattle.std.specs.Ordering.{nat_cmp}
use Rattle.std.specs.declared.cmp.Ordering.TheVariants.{Equal, Greater}
use Rattle.std.specs.Cmp.Lexicographic.{slice_cmp}
use Rattle.round_trip.specs.Words.{PropId, Value, Null, Whole, Text, Place, Prop, EntitySet, Entity, At, InDomain, IsA, IsConcrete, props_of, value_of, entities_in}
use Rattle.edm_types.specs.IsA.{same}
use Rattle.round_trip.specs.legality.Breaches.{StandsIn, StandsAtProp, BreaksType, BreaksNull, BreaksDomain, BreaksRule}
use Rattle.worked_examples.specs.Ids.{type_id, set_id, prop_id}
use Rattle.worked_examples.specs.people.People.{people_model, people_set, person_type, id_prop, name_prop, person, accented}
use Rattle.worked_examples.specs.people.LongName.{long_named, LongNameIsTold}
use Rattle.worked_examples.proofs.facts.Small.{each_at}
use Rattle.worked_examples.proofs.facts.Values.{no_text_21}

abbrev long_name : Value
long_name = Text (accented 21)

abbrev someone : Entity
someone = person (pos 1) long_name

-- the spot of the name
abbrev name_spot : List ℕ
name_spot = 0 ∷ 0 ∷ 1 ∷ []

-- the only entity of the only set
record IsSomeone (s : ℕ) (set : EntitySet) (i : ℕ) (entity : Entity) : Type 0 where
  pub first_set : s ≡ 0
  pub is_set : set ≡ people_set
  pub first : i ≡ 0
  pub is_entity : entity ≡ someone

is_someone : (s : ℕ) (set : EntitySet) (i : ℕ) (entity : Entity) → StandsIn people_model long_named s set i entity → IsSomeone s set i entity
is_someone s set i entity stands =
    let only : (s ≡ 0) × (set ≡ people_set) = each_at (λ k x. (k ≡ 0) × (x ≡ people_set)) people_model.sets ((refl, refl), tt) s set stands.is_set in
    let at : At (someone ∷ []) i entity = subst (λ k. At (entities_in long_named (set_id k)) i entity) only.0 stands.is_entity in
    let alone : (i ≡ 0) × (entity ≡ someone) = each_at (λ k x. (k ≡ 0) × (x ≡ someone)) (someone ∷ []) ((refl, refl), tt) i entity at in
    record { first_set = only.0; is_set = only.1; first = alone.0; is_entity = alone.1 }

type_kept : (spot : List ℕ) (place : Place) → ¬ BreaksType people_model long_named spot place
type_kept spot place breaks =
    let is : IsSomeone breaks.s breaks.set breaks.i breaks.entity = is_someone breaks.s breaks.set breaks.i breaks.entity breaks.stands in
    breaks.broken (record {
      concrete = subst (λ (x : Entity). IsConcrete people_model x.ty) (sym is.is_entity) (person_type, refl, refl);
      under = subst (λ (x : Entity). IsA people_model x.ty breaks.set.element) (sym is.is_entity)
          (subst (λ (x : EntitySet). IsA people_model (type_id 0) x.element) (sym is.is_set) (same (type_id 0)));
    })

-- the id, or the name with its spot
abbrev IsIdOrName : Value → Prop → List ℕ → Type 0
IsIdOrName value declared spot = ((value ≡ Whole (pos 1)) × (declared ≡ id_prop)) ⊎ ((value ≡ long_name) × (spot ≡ name_spot))

-- what stands at the j-th property
abbrev ToldAt : Value → Prop → List ℕ → ℕ → PropId → Type 0
ToldAt value declared spot j prop = value ≡ value_of people_model someone prop → At people_model.props prop.index declared → spot ≡ 0 ∷ 0 ∷ j ∷ []
    → IsIdOrName value declared spot

id_or_name : (spot : List ℕ) (place : Place) (value : Value) (declared : Prop) → StandsAtProp people_model long_named spot place value declared
    → IsIdOrName value declared spot
id_or_name spot place value declared stands =
    let is : IsSomeone stands.s stands.set stands.i stands.entity = is_someone stands.s stands.set stands.i stands.entity stands.stands in
    let at : At (prop_id 0 ∷ prop_id 1 ∷ []) stands.j stands.prop = subst (λ (x : Entity). At (props_of people_model x.ty) stands.j stands.prop) is.is_entity stands.is_prop in
    let value_is : value ≡ value_of people_model someone stands.prop = stands.value_is ∙ ap (λ x. value_of people_model x stands.prop) is.is_entity in
    let spot_is : spot ≡ 0 ∷ 0 ∷ stands.j ∷ [] = stands.spot_is ∙ ap (λ k. k ∷ stands.i ∷ stands.j ∷ []) is.first_set ∙ ap (λ k. 0 ∷ k ∷ stands.j ∷ []) is.first in
    each_at (ToldAt value declared spot) (prop_id 0 ∷ prop_id 1 ∷ [])
    ((λ is_value told is_spot. inl (is_value, cc (told))), ((λ is_value told is_spot. inr (is_value, is_spot)), tt))
    stands.j stands.prop at value_is stands.is_declared spot_is

null_kept : (spot : List ℕ) (place : Place) → ¬ BreaksNull people_model long_named spot place
null_kept spot place breaks = elim (id_or_name spot place Null breaks.0 breaks.1) [ inl id ↦ absurd (cc (id.0)) | inr name ↦ absurd (cc (name.0)) ]

id_in_domain : InDomain (Whole (pos 1)) id_prop.kind
id_in_domain = (omega (arith, ints), omega (arith, ints))

only_name : (spot : List ℕ) (place : Place) → BreaksDomain people_model long_named spot place → spot ≡ name_spot
only_name spot place breaks = elim (id_or_name spot place breaks.0 breaks.1 breaks.2) [
  | inl id ↦ absurd (breaks.4 (subst (λ v. InDomain v breaks.1.kind) (sym id.0) (subst (λ (d : Prop). InDomain (Whole (pos 1)) d.kind) (sym id.1) id_in_domain)))
  | inr name ↦ name.1
]

-- the rule is the third at the spot of the name, or a later one
abbrev IsThirdAtName : ℕ → List ℕ → Type 0
IsThirdAtName rule spot = ((rule ≡ 3) × (spot ≡ name_spot)) ⊎ (4 ≤ rule)

only_third : (rule : ℕ) (spot : List ℕ) (place : Place) → BreaksRule people_model long_named rule spot place → IsThirdAtName rule spot
only_third rule spot place (inl breaks) = absurd (type_kept spot place breaks.1)
only_third rule spot place (inr (inl breaks)) = absurd (null_kept spot place breaks.1)
only_third rule spot place (inr (inr (inl breaks))) = inl (breaks.0, only_name spot place breaks.1)
only_third rule spot place (inr (inr (inr (inl breaks)))) = inr (omega (arith, breaks.0))
only_third rule spot place (inr (inr (inr (inr (inl breaks))))) = inr (omega (arith, breaks.0))
only_third rule spot place (inr (inr (inr (inr (inr (inl breaks)))))) = inr (omega (arith, breaks.0))
only_third rule spot place (inr (inr (inr (inr (inr (inr (inl breaks))))))) = inr (omega (arith, breaks.0))
only_third rule spot place (inr (inr (inr (inr (inr (inr (inr breaks))))))) = inr (omega (arith, breaks.0))

least : (rule : ℕ) (spot : List ℕ) (place : Place) → BreaksRule people_model long_named rule spot place → 3 ≤ rule
least rule spot place breaks = elim (only_third rule spot place breaks) [ inl third ↦ omega (arith, third.0) | inr later ↦ omega (arith, later) ]

at_name : (spot : List ℕ) (place : Place) → BreaksRule people_model long_named 3 spot place → spot ≡ name_spot
at_name spot place breaks = elim (only_third 3 spot place breaks) [ inl third ↦ third.1 | inr later ↦ absurd (omega (arith, later)) ]

pub long_name_is_told : LongNameIsTold
long_name_is_told = record {
  spot = name_spot;
  broken = inr (inr (inl (
    refl,
    (
      long_name,
      name_prop,
      record {
        s = 0;
        i = 0;
        j = 1;
        set = people_set;
        entity = someone;
        prop = prop_id 1;
        stands = record { is_set = refl; is_entity = refl };
        is_prop = refl;
        is_declared = refl;
        value_is = refl;
        spot_is = refl;
        place_is = refl;
      },
      (λ none. absurd (cc)),
      no_text_21,
    ),
  )));
  least = least;
  first = λ spot place breaks greater.
      let it : Equal ≡ Greater = subst (λ other. slice_cmp nat_cmp name_spot other ≡ Greater) (at_name spot place breaks) greater in
      absurd (cc);
}
