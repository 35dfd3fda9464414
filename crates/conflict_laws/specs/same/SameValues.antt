-- Values of two entities that leave the same rows.
-- Source: this project's choice of the states that it shows.
use Rattle.std.specs.Prelude.{◌&&◌, slice_get, find, Bool, Option, not}
use Rattle.std.specs.Option.{option_map_or}
use Rattle.round_trip.specs.Words.{PropId, props_of, key_props}
use Rattle.regions.specs.declared.region.Region.{Region}
use Rattle.regions.specs.declared.pattern.Symbol.TheVariants as symbol
use Rattle.regions.specs.Basis.{Basis}
use Rattle.regions.specs.Patterns.{Valuation}
use Rattle.regions.specs.Settled.{possible}
use Rattle.region_states.specs.defaults.Defaults.{alone, changed, default_valuation, one_value, other_value}
use Rattle.region_states.specs.conflicts.SameFacts.{is_multi, is_one_of}

module _ (basis : Basis) (region : Region) where
  -- the usual values, with the one value of the property
  abbrev pub with_one : PropId → Valuation
  with_one p = option_map_or (λ declared. changed (default_valuation basis 0 region) (alone p (one_value basis p declared))) (slice_get basis.schema.model.props p.index)
      (default_valuation basis 0 region)

  -- the same, with the other value
  abbrev pub with_other : PropId → Valuation
  with_other p = option_map_or (λ declared. changed (default_valuation basis 0 region) (alone p (other_value basis p declared))) (slice_get basis.schema.model.props p.index)
      (default_valuation basis 0 region)

  -- whether a property is no part of the key and may have several values
  abbrev pub may_differ : PropId → Bool
  may_differ p = not (is_one_of p (key_props basis.schema.model region.ty)) && is_multi (possible basis.schema.model region.atoms (symbol.Prop p))

  -- the first such property of the region's type
  abbrev pub first_several : Option PropId
  first_several = find may_differ (props_of basis.schema.model region.ty)
