-- Base types by their places: where they lead, and that they end in a sound model.
use Rattle.std.proofs.Common.{◌≡◌, ℕ, ◌<◌, length, MatchOption, Option, Some, option_map, ap, subst, ◌∙◌}
use Rattle.std.specs.Bool.{⊤}
use Rattle.std.specs.Option.{option_and_then}
use Rattle.std.proofs.lemmas.List.Elements.{All-contains}
use Rattle.emc_base.proofs.Mapped.{contains_at}
use Rattle.round_trip.specs.Words.{EntityModel, EntityType, TypeId, HasBase}
use Rattle.edm_types.specs.Forest.{type_numbered}
use Rattle.round_trip.specs.soundness.models.ModelIds.{IsTypeId}
use Rattle.round_trip.specs.soundness.models.Models.{IsSoundModel}
use Rattle.graphs.specs.base_chains.Chains.{IsAncestor, direct, further, StaysWithin}
use Rattle.graphs.proofs.base_chains.Chains.{Ends, ends}
pub use Rattle.schema_laws.proofs.sound_forests.Whole.{base_place, derived as above, has_base as based_here}

module _ (model : EntityModel) where
  -- a base type has its place
  pub base_here : (t u : TypeId) → HasBase model t u → base_place model t.index ≡ Some u.index
  base_here t u has =
      ap (option_and_then (λ (type : EntityType). option_map (λ (above : TypeId). above.index) type.base)) has.1
      ∙ ap (option_map (λ (above : TypeId). above.index)) has.2

  module _ (sound : IsSoundModel model) where
    pub none_above_itself : (i : ℕ) → ¬ IsAncestor (base_place model) i i
    none_above_itself i up = sound.bases (type_numbered i) (above model i i up)

    stays : StaysWithin (base_place model) (length model.types)
    stays i j is =
        let has = based_here model i j is in
        let P : Option TypeId → Type 0 = λ found. MatchOption found ⊤ (IsTypeId model) in
        subst P has.2 (All-contains (λ (type : EntityType). P type.base) model.types has.0 sound.ids.bases (contains_at model.types i has.0 has.1))

    -- what stands above a place is one of the types
    pub ancestor_within : (i j : ℕ) → IsAncestor (base_place model) i j → j < length model.types
    ancestor_within i j (direct _ _ is) = stays i j is
    ancestor_within i j (further _ k _ is rest) = ancestor_within k j rest

    -- from each type the base types end
    pub base_ends : (i : ℕ) → i < length model.types → Ends (base_place model) (length model.types) i
    base_ends i inside = ends (base_place model) none_above_itself (length model.types) stays i inside
