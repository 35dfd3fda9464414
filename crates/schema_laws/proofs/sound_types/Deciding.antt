-- Whether a type of a sound model is another or derived from it: a climb over base types tells, since they end.
use Rattle.std.proofs.Common.{◌≡◌, ◌≢◌, ◌⊎◌, ⊎_elim, inl, inr, ℕ, zero, suc, ◌<◌, ◌≤◌, length, Option, Some, None, refl, sym, subst, ◌∙◌, arith}
use Rattle.std.specs.Bool.{⊤}
use Rattle.std.proofs.lemmas.Bool.{cases_eq, cases_lt}
use Rattle.std.proofs.lemmas.Option.{MatchOption-at_some, none-some, same_Some, slice_get_within}
use Rattle.round_trip.specs.Words.{EntityModel, TypeId, HasBase, IsA}
use Rattle.edm_types.specs.Forest.{type_numbered}
use Rattle.edm_types.specs.IsA.{same, base, chain}
use Rattle.round_trip.specs.soundness.models.Models.{IsSoundModel}
use Rattle.graphs.proofs.base_chains.Chains.{Ends}
use Rattle.edm_types.proofs.Lookups.{first_step}
use Rattle.schema_laws.proofs.sound_forests.Whole.{base_place}
use Rattle.schema_laws.proofs.sound_types.BasePlaces.{base_ends, base_here, based_here}

module _ (model : EntityModel) (u : TypeId) where
  -- it is u or derived from it, or it isn't
  abbrev Decided : TypeId → Type 0
  Decided t = IsA model t u ⊎ ¬ IsA model t u

  itself : (i : ℕ) → i ≡ u.index → Decided (type_numbered i)
  itself i is =
      let P : TypeId → Type 0 = λ v. IsA model (type_numbered i) v in
      let alike : type_numbered i ≡ u = λ k. record { index = is k } in
      inl (subst P alike (same (type_numbered i)))

  -- a type without a base is derived from no other
  at_root : (t : TypeId) → t.index ≢ u.index → ((v : TypeId) → ¬ HasBase model t v) → Decided t
  at_root t other none = inr (λ derived. ⊎_elim other (λ (step : (v : TypeId) × HasBase model t v × IsA model v u). none step.0 step.1) (first_step model t u derived))

  by_base : (i j : ℕ) → i ≢ u.index → base_place model i ≡ Some j → Decided (type_numbered j) → Decided (type_numbered i)
  by_base i j other is (inl derived) = inl (chain (type_numbered i) (type_numbered j) u (base (type_numbered i) (type_numbered j) (based_here model i j is)) derived)
  by_base i j other is (inr not) = inr (λ derived. ⊎_elim other
      (λ (step : (v : TypeId) × HasBase model (type_numbered i) v × IsA model v u).
      let number : step.0.index ≡ j = same_Some step.0.index j (sym (base_here model (type_numbered i) step.0 step.1) ∙ is) in
      let alike : step.0 ≡ type_numbered j = λ k. record { index = number k } in
      let P : TypeId → Type 0 = λ v. IsA model v u in
      not (subst P alike step.2))
      (first_step model (type_numbered i) u derived))

  climb : (n i : ℕ) → Ends (base_place model) n i → Decided (type_numbered i)
  climb zero i end = absurd end
  climb (suc n) i end =
      by (cases_eq i u.index) (base_place model i) refl (λ j is. climb n j (MatchOption-at_some ⊤ (λ k. Ends (base_place model) n k) j is end))
    where
      by : (i ≡ u.index) ⊎ (i ≢ u.index) → (found : Option ℕ) → base_place model i ≡ found
          → ((j : ℕ) → base_place model i ≡ Some j → Decided (type_numbered j)) → Decided (type_numbered i)
      by (inl is) found here up = itself i is
      by (inr other) None here up = at_root (type_numbered i) other (λ v has. none-some v.index (sym here ∙ base_here model (type_numbered i) v has))
      by (inr other) (Some j) here up = by_base i j other here (up j here)

  pub derived_or_not : IsSoundModel model → (t : TypeId) → IsA model t u ⊎ ¬ IsA model t u
  derived_or_not sound t = by (cases_lt t.index (length model.types)) (cases_eq t.index u.index)
    where
      by : (t.index < length model.types) ⊎ (length model.types ≤ t.index) → (t.index ≡ u.index) ⊎ (t.index ≢ u.index) → Decided t
      by (inl inside) same_or = climb (length model.types) t.index (base_ends model sound t.index inside)
      by (inr outside) (inl is) = itself t.index is
      by (inr outside) (inr other) = at_root t other
          (λ v has. absurd (let within : t.index < length model.types = slice_get_within model.types t.index has.0 has.1 in omega arith))
