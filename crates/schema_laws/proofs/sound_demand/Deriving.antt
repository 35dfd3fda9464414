-- Whether a type of a sound model is another or derived from it is found among its base types, since they end.
use Rattle.std.proofs.Common.{◌≡◌, ◌⊎◌, ⊎_elim, inl, inr, ℕ, zero, suc, ◌<◌, ◌≤◌, length, slice_get, Option, Some, None, option_and_then, Bool, false, true≢false, ◌==◌, ◌||◌, Decides, refl, sym, ap, subst, ◌∙◌}
use Rattle.std.specs.Bool.{⊤}
use Rattle.std.specs.Option.{option_map_or}
use Rattle.std.proofs.lemmas.Bool.{cases_lt}
use Rattle.std.proofs.lemmas.Bool.Decides.{Decides-eqb, Decides-like, Decides-or}
use Rattle.std.proofs.lemmas.Option.{MatchOption-at_some, none-some, same_Some, slice_get_past}
use Rattle.round_trip.specs.Words.{EntityModel, EntityType, TypeId, HasBase, IsA}
use Rattle.edm_types.specs.IsA.{same, base, chain}
use Rattle.round_trip.specs.soundness.models.Models.{IsSoundModel}
use Rattle.graphs.proofs.base_chains.Chains.{Ends}
use Rattle.edm_types.proofs.Lookups.{first_step}
use Rattle.schema_laws.proofs.sound_types.BasePlaces.{base_ends, base_here, base_place}
use Rattle.schema_laws.specs.state_demand.Selecting.{DecidesTypes}
use Rattle.schema_laws.specs.sound_demand.Deriving.{base_of, derives, is_under}

module _ (model : EntityModel) where
  base_is : (t u : TypeId) → HasBase model t u → base_of model t ≡ Some u
  base_is t u has = ap (option_and_then (λ (type : EntityType). type.base)) has.1 ∙ has.2

  based_on : (t u : TypeId) → base_of model t ≡ Some u → HasBase model t u
  based_on t u is = by (slice_get model.types t.index) refl is
    where
      by : (found : Option EntityType) → slice_get model.types t.index ≡ found → option_and_then (λ (type : EntityType). type.base) found ≡ Some u → HasBase model t u
      by None here none = absurd (none-some u none)
      by (Some type) here some = (type, here, some)

  module _ (u : TypeId) where
    -- its base type is u or derived from it
    abbrev ByBase : TypeId → Type 0
    ByBase t = (v : TypeId) × HasBase model t v × IsA model v u

    derived_from : (t : TypeId) → (t.index ≡ u.index) ⊎ ByBase t → IsA model t u
    derived_from t (inl number) =
        let alike : t ≡ u = λ k. record { index = number k } in
        subst (IsA model t) alike (same t)
    derived_from t (inr (v, has, under)) = chain t v u (base t v has) under

    none_by_root : (t : TypeId) → base_of model t ≡ None → ¬ ByBase t
    none_by_root t none (v, has, under) = none-some v (sym none ∙ base_is t v has)

    at_root : (n : ℕ) (t : TypeId) → base_of model t ≡ None → Decides (is_under model n t u) (IsA model t u)
    at_root zero t none = Decides-like (t.index == u.index) (λ number. derived_from t (inl number))
        (λ under. ⊎_elim (λ (number : t.index ≡ u.index). number) (λ (step : ByBase t). absurd (none_by_root t none step)) (first_step model t u under))
        (Decides-eqb t.index u.index)
    at_root (suc n) t none =
        let rest : Bool = option_map_or (λ (v : TypeId). is_under model n v u) (base_of model t) false in
        let is_false : rest ≡ false = ap (λ found. option_map_or (λ (v : TypeId). is_under model n v u) found false) none in
        Decides-like ((t.index == u.index) || rest) (derived_from t) (first_step model t u)
        (Decides-or (t.index == u.index) rest (Decides-eqb t.index u.index)
        ((λ told. absurd (true≢false (sym told ∙ is_false))), (λ step. absurd (none_by_root t none step))))

    climb : (n : ℕ) (t : TypeId) → Ends (base_place model) n t.index → Decides (is_under model n t u) (IsA model t u)
    climb zero t end = absurd end
    climb (suc n) t end = by (base_of model t) refl
        (λ v is. climb n v (MatchOption-at_some ⊤ (λ k. Ends (base_place model) n k) v.index (base_here model t v (based_on t v is)) end))
      where
        by : (found : Option TypeId) → base_of model t ≡ found → ((v : TypeId) → base_of model t ≡ Some v → Decides (is_under model n v u) (IsA model v u))
            → Decides (is_under model (suc n) t u) (IsA model t u)
        by None none up = at_root (suc n) t none
        by (Some v) is up =
            let rest : Bool = option_map_or (λ (w : TypeId). is_under model n w u) (base_of model t) false in
            let is_up : rest ≡ is_under model n v u = ap (λ found. option_map_or (λ (w : TypeId). is_under model n w u) found false) is in
            let above = up v is in
            Decides-like ((t.index == u.index) || rest) (derived_from t) (first_step model t u)
            (Decides-or (t.index == u.index) rest (Decides-eqb t.index u.index) (
              (λ told. (v, based_on t v is, above.0 (sym is_up ∙ told))),
              (λ step.
                  let one : step.0 ≡ v = same_Some step.0 v (sym (base_is t step.0 step.1) ∙ is) in
                  is_up ∙ above.1 (subst (λ w. IsA model w u) one step.2)),
            ))

pub decides_types : (model : EntityModel) → IsSoundModel model → DecidesTypes model (derives model)
decides_types model sound = record {
  tells = λ t u. ⊎_elim
      (λ (inside : t.index < length model.types). climb model u (length model.types) t (base_ends model sound t.index inside))
      (λ (outside : length model.types ≤ t.index). at_root model u (length model.types) t
      (ap (option_and_then (λ (type : EntityType). type.base)) (slice_get_past model.types t.index outside)))
      (cases_lt t.index (length model.types));
}
