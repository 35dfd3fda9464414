-- Models in which a type's base has no base itself.
use Rattle.std.proofs.Common.{◌≡◌, refl, subst, ◌∙◌}
use Rattle.std.specs.Prelude.{bytes_eq, true, Some, None, MatchOption, slice_get, ⊤}
use Rattle.std.proofs.lemmas.Option.{MatchOption-at_some}
use Rattle.std.proofs.lemmas.Slice.Eq.{bytes_eq-Decides}
use Rattle.round_trip.specs.Words.{TypeId, EntityModel, EntityType, At, HasBase, IsA}
use Rattle.edm_types.specs.IsA.{same, base, chain}
use Rattle.worked_examples.proofs.facts.Small.{EachAt, each_at}
use Rattle.worked_examples.specs.Ids.{type_id}
use Rattle.round_trip.specs.soundness.models.ModelNames.{own_names, HasDistinctMembers}
use Rattle.worked_examples.proofs.sound_examples.Names.{names_apart}
use Rattle.worked_examples.proofs.sound_examples.Tests.{are_new, share_none, none_shared}
use Rattle.worked_examples.proofs.sound_examples.Lists.{none_among}
use Rattle.round_trip.specs.soundness.Lookups.{IsAncestor}
use Rattle.round_trip.specs.soundness.models.Inheritance.{HasNoCircle}

module _ (model : EntityModel) where
  -- P of the base type, where there is one
  abbrev pub OfBase : (TypeId → EntityType → Type 0) → EntityType → Type 0
  OfBase P type = MatchOption type.base ⊤ (λ u. MatchOption (slice_get model.types u.index) ⊤ (λ above. P u above))

  -- no base has a base
  abbrev pub IsFlat : Type 0
  IsFlat = EachAt (λ i type. OfBase (λ u above. above.base ≡ None) type) model.types

  -- the names of a type's members differ, from one another and from those of its base
  abbrev pub HasOtherNames : TypeId → EntityType → Type 0
  HasOtherNames t type = (are_new bytes_eq (own_names model t type) ≡ true) × OfBase (λ u above. share_none bytes_eq (own_names model t type) (own_names model u above) ≡ true) type

  pub of_base : (P : TypeId → EntityType → Type 0) (type : EntityType) (u : TypeId) (above : EntityType)
      → type.base ≡ Some u → At model.types u.index above → OfBase P type → P u above
  of_base P type u above is at holds =
      let Q : TypeId → Type 0 = λ v. MatchOption (slice_get model.types v.index) ⊤ (λ other. P v other) in
      MatchOption-at_some ⊤ (λ other. P u other) above at (MatchOption-at_some ⊤ Q u is holds)

-- what has no base has none above it
alone : (model : EntityModel) {t u : TypeId} → ((v : TypeId) → ¬ HasBase model t v) → IsA model t u → t ≡ u
alone model none (same t) = refl
alone model none (base t u has) = absurd (none u has)
alone model none (chain s t u first rest) =
    let is : s ≡ t = alone model none first in
    is ∙ alone model (subst (λ w. (v : TypeId) → ¬ HasBase model w v) is none) rest

module _ (model : EntityModel) (flat : IsFlat model) where
  no_second : (t u v : TypeId) → HasBase model t u → ¬ HasBase model u v
  no_second t u v has above =
      let none : above.0.base ≡ None = of_base model (λ w other. other.base ≡ None) has.0 u above.0 has.2 above.1 (each_at (λ i type. OfBase model (λ w other. other.base ≡ None) type) model.types flat t.index has.0 has.1) in
      let some : above.0.base ≡ Some v = above.2 in
      absurd (cc)

  -- only the base is above
  pub only_above : (t u : TypeId) → IsAncestor model u t → HasBase model t u
  only_above t u has = subst (HasBase model t) (alone model (λ v. no_second t has.0 v has.1) has.2) has.1

  pub no_circle : HasNoCircle model
  no_circle t has = no_second t t t (only_above t t has) (only_above t t has)

  pub members : EachAt (λ i type. HasOtherNames model (type_id i) type) model.types
      → (t : TypeId) (type : EntityType) → At model.types t.index type → HasDistinctMembers model t type
  members each t type at =
      let facts : HasOtherNames model t type = each_at (λ i entry. HasOtherNames model (type_id i) entry) model.types each t.index type at in
      record {
        own = names_apart (own_names model t type) facts.0;
        inherited = λ u ancestor above is_above.
            let has : HasBase model t u = only_above t u above in
            let same : has.0 ≡ type = cc (has.1, at) in
            let is : type.base ≡ Some u = subst (λ (entry : EntityType). entry.base ≡ Some u) same has.2 in
            let test : share_none bytes_eq (own_names model t type) (own_names model u ancestor) ≡ true
            = of_base model (λ v entry. share_none bytes_eq (own_names model t type) (own_names model v entry) ≡ true) type u ancestor is is_above facts.1 in
            none_among (own_names model u ancestor) (own_names model t type) (none_shared bytes_eq bytes_eq-Decides (own_names model t type) (own_names model u ancestor) test);
      }
