-- The usual values of a region's entity, with another value of one property.
-- Source: this project's choice of the values in the states that it shows.
use Rattle.std.specs.Prelude.{List, [], ◌∷◌, Option, None, Some}
use Rattle.round_trip.specs.Words.{PropId, Prop}
use Rattle.regions.specs.declared.region.Region.{Region}
use Rattle.regions.specs.Basis.{Basis}
use Rattle.regions.specs.Patterns.{Valuation}
use Rattle.region_states.specs.defaults.Defaults.{alone, changed, default_valuation, one_value, other_value}
use Rattle.witness_state.specs.declared.region_values.changes.Change.{Change}

module _ (basis : Basis) (region : Region) where
  -- the usual values, with this change if there is one
  abbrev pub by_change : Option Change → Valuation
  by_change None = default_valuation basis 0 region
  by_change (Some change) = changed (default_valuation basis 0 region) (alone change.property change.value)

-- the change to the one value of a property, and that to the other
abbrev pub both_changes : Basis → PropId → Prop → List (Option Change)
both_changes basis p declared = Some (record { property = p; value = one_value basis p declared }) ∷ Some (record { property = p; value = other_value basis p declared }) ∷ []
