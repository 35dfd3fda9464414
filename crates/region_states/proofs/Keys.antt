-- The key of an entity whose key is numbered: the same for each region of a set.
use Rattle.std.proofs.Common.{◌≡◌, ℕ, List, map, Contains, sym, ap, ◌∙◌}
use Rattle.round_trip.specs.Words.{SetId, PropId, Value, EntityModel, key_of, key_props, value_of}
use Rattle.round_trip.specs.soundness.Lookups.{set_key}
use Rattle.schema_laws.proofs.state_demand.lists.Places.{map_agree}
use Rattle.regions.specs.declared.region.Region.{Region}
use Rattle.regions.specs.Basis.{Basis}
use Rattle.regions.specs.Patterns.{Valuation}
use Rattle.regions.specs.Regions.{regions_of}
use Rattle.regions.specs.region_laws.IsBasis.{IsBasis}
use Rattle.regions.proofs.region_laws.listing.Listed.{set_is}
use Rattle.regions.proofs.region_laws.pattern.types.Regions.{key_is}
use Rattle.schema_laws.proofs.sound_types.Inherited.{key_among}
use Rattle.region_states.specs.defaults.Admissible.{HasNumberedKey}
use Rattle.schema_laws.specs.short_values.Fresh.{fresh_at, focus_key}
use Rattle.schema_laws.specs.short_values.Places.{place_in}
use Rattle.region_states.specs.Entities.{focus_entity}
use Rattle.region_states.proofs.Entities.{has_value}

-- the numbered values of these parts of a key
abbrev pub numbered_key : EntityModel → ℕ → List PropId → List Value
numbered_key model outer key = map (λ p. fresh_at model outer p (focus_key (place_in p key))) key

module _ (basis : Basis) (is : IsBasis basis) (outer : ℕ) (s : SetId) where
  -- the key of such an entity is that of its set
  pub focus_key_is : (region : Region) → Contains (regions_of basis s) region → (values : Valuation) → HasNumberedKey basis outer region values
      → key_of basis.schema.model (focus_entity basis region values) ≡ numbered_key basis.schema.model outer (set_key basis.schema.model s)
  focus_key_is region has values numbered =
      let key : List PropId = key_props basis.schema.model region.ty in
      map_agree (value_of basis.schema.model (focus_entity basis region values)) (λ p. fresh_at basis.schema.model outer p (focus_key (place_in p key))) key
      (λ p among. has_value basis region values p (key_among basis.schema.model is.sound.model p region.ty among) ∙ numbered p among)
      ∙ ap (numbered_key basis.schema.model outer) (key_is basis is s region has ∙ ap (set_key basis.schema.model) (set_is basis s region has))

  -- and so entities of two regions of the set have one key
  pub same_focus_key : (one two : Region) → Contains (regions_of basis s) one → Contains (regions_of basis s) two → (values others : Valuation)
      → HasNumberedKey basis outer one values → HasNumberedKey basis outer two others
      → key_of basis.schema.model (focus_entity basis one values) ≡ key_of basis.schema.model (focus_entity basis two others)
  same_focus_key one two has_one has_two values others numbered numbered_too =
      focus_key_is one has_one values numbered ∙ sym (focus_key_is two has_two others numbered_too)
