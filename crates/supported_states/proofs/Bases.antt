-- A walk up the base types.
use Rattle.std.proofs.Common.{◌≡◌, ℕ, zero, suc, true, false, ◌==◌, ◌||◌, Option, ap, ◌∙◌}
use Rattle.std.specs.Option.{option_map_or}
use Rattle.round_trip.specs.Words.{TypeId, EntityModel}
use Rattle.schema_laws.specs.sound_demand.Deriving.{base_of, is_under}

module _ (model : EntityModel) (t u : TypeId) where
  -- the type is found
  pub found_here : (n : ℕ) → (t.index == u.index) ≡ true → is_under model n t u ≡ true
  found_here zero same = same
  found_here (suc n) same = ap (λ b. b || option_map_or (λ base. is_under model n base u) (base_of model t) false) same

  -- or looked for above, if there is something
  pub found_above : (n left : ℕ) → n ≡ suc left → (t.index == u.index) ≡ false → (base : Option TypeId) → base_of model t ≡ base
      → is_under model n t u ≡ option_map_or (λ one. is_under model left one u) base false
  found_above n left one other base is =
      ap (λ (k : ℕ). is_under model k t u) one
      ∙ ap (λ b. b || option_map_or (λ base. is_under model left base u) (base_of model t) false) other
      ∙ ap (λ (o : Option TypeId). option_map_or (λ base. is_under model left base u) o false) is
