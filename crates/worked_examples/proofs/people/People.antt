-- People: which states are legal.
use Rattle.std.proofs.Common.{◌≢◌, inl, inr, ℕ, ◌≤◌, List, [], ◌∷◌, refl, arith, Some}
use Rattle.std.specs.Prelude.{pos, true, false}
use Rattle.std.specs.List.{AllByRecursion}
use Rattle.round_trip.specs.Words.{Value, Null, Whole, Text, Assoc, Entity, HasProp, IsLegalSet, IsLegal}
use Rattle.emc_base.specs.declared.value.Kind.TheVariants as kind
use Rattle.emc_base.specs.Domain.{IsText}
use Rattle.worked_examples.specs.Ids.{set_id, prop_id}
use Rattle.worked_examples.specs.people.People.{TwentyOneCharactersAreNot, people_with, accented, people_model, people_set, name_prop, person, only_people}
use Rattle.worked_examples.proofs.facts.Small.{PairsByRecursion}
use Rattle.worked_examples.proofs.facts.Values.{FitsIn, null_fits, whole_fits, text_fits, no_text_21}
use Rattle.worked_examples.proofs.facts.Entities.{MayStand, two_values_stand, HaveOwnKeys}
use Rattle.worked_examples.proofs.facts.States.{legal_set_alone}

-- the value may be a name
abbrev pub FitsName : Value → Type 0
FitsName value = FitsIn (kind.Text (Some 20)) true value

-- a person of a small id, with any name that fits
pub may_stand_with : (assocs : List Assoc) (id : ℕ) (name : Value) → id ≤ 2147483647 → FitsName name
    → MayStand (people_with assocs) people_set (person (pos id) name)
may_stand_with assocs id name below fits = two_values_stand (Whole (pos id)) name (whole_fits false id below) fits

pub may_stand : (id : ℕ) (name : Value) → id ≤ 2147483647 → FitsName name → MayStand people_model people_set (person (pos id) name)
may_stand id name below fits = may_stand_with [] id name below fits

pub no_name : FitsName Null
no_name = null_fits (kind.Text (Some 20))

pub a_name : (bytes : List ℕ) → IsText (Some 20) bytes → FitsName (Text bytes)
a_name bytes text = text_fits true (Some 20) bytes text

-- people who may stand, of different ids, make a legal state
pub legal_people : (entities : List Entity) → AllByRecursion (MayStand people_model people_set) entities → PairsByRecursion (HaveOwnKeys people_model) entities
    → IsLegal people_model (only_people entities)
legal_people entities each own = legal_set_alone people_model people_set entities refl refl each own

-- people of different ids have different keys
pub ids_differ : (assocs : List Assoc) (one two : ℕ) (name other : Value) → one ≢ two
    → HaveOwnKeys (people_with assocs) (person (pos one) name) (person (pos two) other)
ids_differ assocs one two name other differ equal = differ (cc)

pub too_long : TwentyOneCharactersAreNot
too_long legal =
    let e : Entity = person (pos 1) (Text (accented 21)) in
    let set : IsLegalSet people_model people_set (e ∷ []) = legal.sets (set_id 0) people_set refl in
    let named : HasProp people_model e (prop_id 1) name_prop = record { among = (1, omega arith, refl); is_declared = refl } in
    elim (set.domains 0 e (omega arith) (prop_id 1) name_prop named) [ inl none ↦ absurd (cc) | inr text ↦ no_text_21 text ]
