-- Values of an entity of a region by which two symbols of a cell differ.
-- Source: this project's choice of the states that it shows.
use Rattle.std.specs.Prelude.{List, [], ◌∷◌, ◌++◌, find, slice_get, unwrap_or, Bool, not}
use Rattle.std.specs.Option.{option_map_or}
use Rattle.schema_laws.specs.state_demand.Selecting.{same_value}
use Rattle.regions.specs.declared.region.Region.{Region}
use Rattle.regions.specs.declared.pattern.Symbol.{Symbol}
use Rattle.regions.specs.declared.pattern.Symbol.TheVariants as symbol
use Rattle.regions.specs.Basis.{Basis}
use Rattle.regions.specs.Patterns.{Valuation, value_under}
use Rattle.regions.specs.Settled.{Possible, multi, possible}
use Rattle.region_states.specs.defaults.Defaults.{alone, changed, default_valuation, one_value, other_value}

-- whether two symbols have different values
abbrev pub differ_under : Symbol → Symbol → Valuation → Bool
differ_under one two values = not (same_value (value_under values one) (value_under values two))

module _ (basis : Basis) (region : Region) where
  -- the usual values, with one of two others of a property
  abbrev pub with_others : Symbol → Possible → List Valuation
  with_others (symbol.Prop p) (multi nullable) = option_map_or (λ declared.
      changed (default_valuation basis 0 region) (alone p (one_value basis p declared)) ∷ changed (default_valuation basis 0 region) (alone p (other_value basis p declared)) ∷ [])
      (slice_get basis.schema.model.props p.index) []
  with_others one can = []

  -- the usual values, and those with another value of a property that may have several
  abbrev pub values_tried : Symbol → Symbol → List Valuation
  values_tried one two = default_valuation basis 0 region ∷ with_others one (possible basis.schema.model region.atoms one)
      ++ with_others two (possible basis.schema.model region.atoms two)

  -- the first of these by which the two symbols differ
  abbrev pub clash_values : Symbol → Symbol → Valuation
  clash_values one two = unwrap_or (find (differ_under one two) (values_tried one two)) (default_valuation basis 0 region)
