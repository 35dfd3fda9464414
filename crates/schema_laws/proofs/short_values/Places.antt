-- Where properties stand among others, which are dependent, and the numbered value of a property.
use Rattle.std.proofs.Common.{◌≡◌, ⊎_elim, ℕ, suc, ◌==◌, ◌<◌, List, [], ◌∷◌, length, Contains, Option, Some, None, false, true≢false, Decides, refl, sym, ap, subst, arith}
use Rattle.std.specs.Option.{option_map_or}
use Rattle.std.proofs.lemmas.Bool.{cond_both}
use Rattle.std.proofs.lemmas.Bool.Decides.{Decides-like, not_from_Decides}
use Rattle.std.proofs.lemmas.Option.{same_Some}
use Rattle.round_trip.specs.Words.{PropId, Null, EntityModel, Prop, Assoc, Constraint, At}
use Rattle.round_trip.specs.soundness.mappings.Joined.{IsDependent}
use Rattle.schema_laws.specs.short_values.Fresh.{fresh, fresh_at}
use Rattle.schema_laws.specs.short_values.Places.{is_among, is_dependent, place_in}
use Rattle.schema_laws.proofs.state_demand.lists.Ids.{Decides-prop}
use Rattle.schema_laws.proofs.state_demand.lists.Lists.{Decides-any, any_of, member_cases, none_in_nil, of_any}

-- a property's place among those of which it is one
pub place_within : (p : PropId) (props : List PropId) → Contains props p → place_in p props < length props
place_within p [] has = absurd (none_in_nil p has)
place_within p (q ∷ props) has =
    let P : ℕ → Type 0 = λ n. n < suc (length props) in
    cond_both (q.index == p.index) 0 (suc (place_in p props)) P
    (λ told. omega arith)
    (λ told. ⊎_elim
    (λ (here : p ≡ q). absurd (not_from_Decides (q.index == p.index) (Decides-prop q p) told (sym here)))
    (λ (later : Contains props p). let rest = place_within p props later in omega (arith, rest))
    (member_cases q props p has))

-- whether a property is among these, and whether it is dependent
pub Decides-among : (props : List PropId) (p : PropId) → Decides (is_among p props) (Contains props p)
Decides-among props p = Decides-like (is_among p props)
    (λ any. let found = of_any (λ (q : PropId). q ≡ p) props any in subst (Contains props) found.2 found.1)
    (λ has. any_of (λ (q : PropId). q ≡ p) props p has refl)
    (Decides-any (λ (q : PropId). q.index == p.index) (λ (q : PropId). q ≡ p) (λ q. Decides-prop q p) props)

module _ (model : EntityModel) (p : PropId) where
  abbrev DependsBy : Assoc → Type 0
  DependsBy assoc = (constraint : Constraint) × (assoc.constraint ≡ Some constraint) × Contains constraint.dependent p

  Decides-constraint : (found : Option Constraint)
      → Decides (option_map_or (λ (constraint : Constraint). is_among p constraint.dependent) found false)
      ((constraint : Constraint) × (found ≡ Some constraint) × Contains constraint.dependent p)
  Decides-constraint None = (λ told. absurd (true≢false (sym told)), λ by. absurd (let never : None ≡ Some by.0 = by.1 in cc))
  Decides-constraint (Some constraint) = (
    λ told. (constraint, refl, (Decides-among constraint.dependent p).0 told),
    λ by. (let P : Constraint → Type 0 = λ one. Contains one.dependent p in
        (Decides-among constraint.dependent p).1 (subst P (sym (same_Some constraint by.0 by.1)) by.2)),
  )

  pub Decides-dependent : Decides (is_dependent model p) (IsDependent model p)
  Decides-dependent = Decides-like (is_dependent model p)
      (λ any. let found = of_any DependsBy model.assocs any in
      record { assoc = found.0; constraint = found.2.0; is_assoc = found.1; constrained = found.2.1; among = found.2.2 })
      (λ by. any_of DependsBy model.assocs by.assoc by.is_assoc (by.constraint, by.constrained, by.among))
      (Decides-any (λ (assoc : Assoc). option_map_or (λ (constraint : Constraint). is_among p constraint.dependent) assoc.constraint false) DependsBy
      (λ assoc. Decides-constraint assoc.constraint) model.assocs)

pub fresh_is : (model : EntityModel) (p : PropId) (declared : Prop) → At model.props p.index declared → (outer index : ℕ) → fresh_at model outer p index ≡ fresh declared.kind outer index
fresh_is model p declared here outer index = ap (λ found. option_map_or (λ (one : Prop). fresh one.kind outer index) found Null) here
