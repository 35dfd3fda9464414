-- A type and what stands above it: by a climb over base types, each type is asked whether it is the wanted one.
use Rattle.std.proofs.Common.{◌≡◌, ◌≢◌, ⊎_elim, ◌↔◌, ℕ, MatchOption, Option, Some, None, refl, sym, subst}
use Rattle.edm_types.specs.Forest.{type_numbered}
use Rattle.edm_types.specs.IsA.{same, base, chain}
use Rattle.edm_types.proofs.Lookups.{first_step}
use Rattle.round_trip.specs.Words.{EntityModel, TypeId, HasBase, IsA}
use Rattle.schema_names.specs.Inherited.{base_place}
use Rattle.schema_names.proofs.Inherits.{has_base}
use Rattle.schema_names.proofs.Places.{base_here}

module _ (model : EntityModel) where
  module _ (wanted : TypeId) where
    -- the type at a place is derived from the wanted one
    abbrev pub IsBelow : ℕ → Type 0
    IsBelow t = IsA model (type_numbered t) wanted

    -- a type that isn't the wanted one is derived from it by its base type
    by_base : (t : ℕ) → t ≢ wanted.index → IsBelow t ↔ MatchOption (base_place model t) ⊥ IsBelow
    by_base t other = (down, up (base_place model t) refl)
      where
        down : IsBelow t → MatchOption (base_place model t) ⊥ IsBelow
        down is = ⊎_elim
            (λ (one : t ≡ wanted.index). absurd (other one))
            (λ (step : (v : TypeId) × HasBase model (type_numbered t) v × IsA model v wanted).
            let P : Option ℕ → Type 0 = λ found. MatchOption found ⊥ IsBelow in
            subst P (sym (base_here model (type_numbered t) step.0 step.1)) step.2)
            (first_step model (type_numbered t) wanted is)

        up : (found : Option ℕ) → base_place model t ≡ found → MatchOption found ⊥ IsBelow → IsBelow t
        up None root none = absurd none
        up (Some j) here is = chain (type_numbered t) (type_numbered j) wanted (base (type_numbered t) (type_numbered j) (has_base model t j here)) is

    -- the climb may go on from the base type
    pub climbed : (T : Type 0) (place : ℕ) (next after : Option ℕ) → next ≡ Some place → after ≡ base_place model place → place ≢ wanted.index
        → (T ↔ MatchOption next ⊥ IsBelow) → (T ↔ MatchOption after ⊥ IsBelow)
    climbed T place next after here above other known =
        let P : Option ℕ → Type 0 = λ found. T ↔ MatchOption found ⊥ IsBelow in
        let now : T ↔ IsBelow place = subst P here known in
        let step = by_base place other in
        subst P (sym above) (λ holds. step.0 (now.0 holds), λ holds. now.1 (step.1 holds))

    -- the climb reached the wanted type
    pub reached : (T : Type 0) (place : ℕ) (next : Option ℕ) → next ≡ Some place → place ≡ wanted.index → (T ↔ MatchOption next ⊥ IsBelow) → T
    reached T place next here one known =
        let P : Option ℕ → Type 0 = λ found. T ↔ MatchOption found ⊥ IsBelow in
        let now : T ↔ IsBelow place = subst P here known in
        let alike : type_numbered place ≡ wanted = λ k. record { index = one k } in
        now.1 (subst (λ (t : TypeId). IsA model t wanted) (sym alike) (same wanted))
