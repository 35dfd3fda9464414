-- States that hold a focus of which given properties aren't null, with what supports it; their keys come from a row of numbers.
-- Source: this project's choice of the states that it shows.
use Rattle.std.specs.Prelude.{◌≡◌, ℕ, List, slice_get, Contains, Option, None, Some, true, if◌then◌else◌}
use Rattle.std.specs.Option.{option_map_or}
use Rattle.round_trip.specs.Words.{PropId, State, Null, Value, props_of}
use Rattle.schema_laws.specs.short_values.Places.{is_among}
use Rattle.population.specs.LinkStates.{link_state, plain_link}
use Rattle.regions.specs.Basis.{Basis}
use Rattle.regions.specs.Patterns.{Valuation, by_link}
use Rattle.regions.specs.Settled.{multi, possible}
use Rattle.regions.specs.declared.pattern.Focus.{Focus}
use Rattle.regions.specs.declared.pattern.Focus.TheVariants as focus
use Rattle.regions.specs.declared.pattern.Symbol.TheVariants as symbol
use Rattle.regions.specs.declared.region.Region.{Region}
use Rattle.region_states.specs.defaults.Defaults.{changed, default_valuation, some_value}
use Rattle.failure_laws.specs.Witnesses.{empty_state}
use Rattle.host_states.specs.FocusStates.{focus_state}

-- each of the properties is one of the region's type of which it is open whether it is null
abbrev pub AreOpen : Basis → Region → List PropId → Type 0
AreOpen basis region not_null = (p : PropId) → Contains not_null p
    → Contains (props_of basis.schema.model region.ty) p × (possible basis.schema.model region.atoms (symbol.Prop p) ≡ multi true)

module _ (basis : Basis) (outer : ℕ) where
  module _ (region : Region) (not_null : List PropId) where
    -- a value that isn't null of each of the properties
    abbrev pub some_for : PropId → Option Value
    some_for p = if is_among p not_null then option_map_or (λ declared. Some (some_value basis outer region.ty p declared)) (slice_get basis.schema.model.props p.index) None else None

    -- the usual values, but that none of the properties is null
    abbrev pub flow_values : Valuation
    flow_values = changed (default_valuation basis outer region) some_for

  -- the values of the focus
  abbrev pub values_of_focus : Focus → List PropId → Valuation
  values_of_focus (focus.Entity region) not_null = flow_values region not_null
  values_of_focus (focus.Link a) not_null = option_map_or (λ assoc. by_link basis.schema.model assoc (plain_link basis.schema.model outer assoc))
      (slice_get basis.schema.model.assocs a.index) (record { prop = λ p. Null; part = λ b first p. Null })

  -- the state that holds it
  abbrev pub flow_state : Focus → List PropId → State
  flow_state (focus.Entity region) not_null = focus_state basis outer region (flow_values region not_null)
  flow_state (focus.Link a) not_null = option_map_or (link_state basis.schema.model outer a) (slice_get basis.schema.model.assocs a.index) (empty_state basis.schema.model)
