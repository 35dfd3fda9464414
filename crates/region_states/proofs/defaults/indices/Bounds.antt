-- Places of parts of keys and of properties, and the indices that they give.
use Rattle.std.proofs.Common.{◌≡◌, ◌<◌, ◌≤◌, [], length, slice_get, Contains, Option, Some, None, refl, arith}
use Rattle.std.specs.Option.{option_map_or}
use Rattle.std.proofs.lemmas.List.Elements.{All-contains}
use Rattle.std.proofs.lemmas.Option.{slice_get_within}
use Rattle.emc_base.proofs.Mapped.{contains_at}
use Rattle.round_trip.specs.Words.{EntityModel, EntityType, PropId, TypeId, AssocId, Assoc, At, key_props, props_of}
use Rattle.round_trip.specs.soundness.models.Models.{IsSoundModel}
use Rattle.schema_laws.proofs.sound_demand.Keys.{keys_few}
use Rattle.schema_laws.proofs.short_values.Places.{place_within}
use Rattle.cells.specs.Limits.{IsSmallModel, most_props}
use Rattle.schema_laws.specs.short_values.Places.{place_in}
use Rattle.schema_laws.specs.short_values.Fresh.{dependent, dependent_value, focus, focus_key, most_indices, partner, partner_key}
use Rattle.schema_laws.proofs.short_values.Uses.{index_below}

module _ (model : EntityModel) (sound : IsSoundModel model) where
  -- the indices of the parts of a key, and of a partner's
  pub key_index : (t : TypeId) (p : PropId) → Contains (key_props model t) p → focus_key (place_in p (key_props model t)) < most_indices
  key_index t p has =
      let place = place_within p (key_props model t) has in
      let few = keys_few model sound t in
      index_below (focus (place_in p (key_props model t))) (omega (arith, place, few))

  module _ (small : IsSmallModel model) where
    pub partner_index : (a : AssocId) (assoc : Assoc) → At model.assocs a.index assoc → (t : TypeId) (p : PropId) → Contains (key_props model t) p
        → partner_key a.index (place_in p (key_props model t)) < most_indices
    partner_index a assoc here t p has =
        let place = place_within p (key_props model t) has in
        let few = keys_few model sound t in
        let inside = slice_get_within model.assocs a.index assoc here in
        let most = small.0 in
        index_below (partner a.index (place_in p (key_props model t))) (omega (arith, inside, most), omega (arith, place, few))

    props_few : (t : TypeId) → length (props_of model t) ≤ most_props
    props_few t = by (slice_get model.types t.index) refl
      where
        by : (found : Option EntityType) → slice_get model.types t.index ≡ found → length (option_map_or (λ (one : EntityType). one.props) found []) ≤ most_props
        by None here = omega arith
        by (Some type) here =
            let Few : EntityType → Type 0 = λ one. length one.props ≤ most_props in
            All-contains Few model.types type small.1 (contains_at model.types t.index type here)

    -- and of a dependent property
    pub dependent_index : (t : TypeId) (p : PropId) → Contains (props_of model t) p → dependent_value (place_in p (props_of model t)) < most_indices
    dependent_index t p has =
        let place = place_within p (props_of model t) has in
        let few = props_few t in
        index_below (dependent (place_in p (props_of model t))) (omega (arith, place, few))
