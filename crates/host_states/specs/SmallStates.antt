-- The small parts of the states that hold an entity of a region: what it and its partners need, and nothing else.
-- Source: this project's choice of the states that it shows.
use Rattle.std.specs.Prelude.{ℕ, List, [], ◌∷◌, ◌++◌, map}
use Rattle.round_trip.specs.Words.{State, key_of}
use Rattle.regions.specs.declared.region.Region.{Region}
use Rattle.regions.specs.Basis.{Basis}
use Rattle.regions.specs.Patterns.{Valuation}
use Rattle.population.specs.Kept.{part_of}
use Rattle.population.specs.declared.placed.PlacedKey.{PlacedKey}
use Rattle.population.specs.declared.placed.Placed.{Placed}
use Rattle.host_states.specs.FocusStates.{focus_state, given_by, leaving_states, linked_hosts, rival_states}

module _ (basis : Basis) (outer : ℕ) where
  -- the keys of the entity and of its partners
  abbrev pub key_of_placed : Placed → PlacedKey
  key_of_placed placed = record { set = placed.set; key = key_of basis.schema.model placed.entity }

  abbrev pub roots_of : Region → Valuation → List PlacedKey
  roots_of region values = map key_of_placed (given_by basis outer (linked_hosts basis region) region values)

  -- what these need in the state
  abbrev pub small_focus : Region → Valuation → State
  small_focus region values = part_of basis.schema.model (focus_state basis outer region values ∷ []) (roots_of region values) (focus_state basis outer region values)

  -- what those of both states need in either
  abbrev pub part_in_both : State → State → List PlacedKey → State → State
  part_in_both c d roots state = part_of basis.schema.model (c ∷ (d ∷ [])) roots state

  abbrev pub small_rivals : Region → Valuation → Region → Valuation → State × State
  small_rivals one values two others =
      let both = rival_states basis outer one values two others in
      let roots = roots_of one values ++ roots_of two others in
      (part_in_both both.0 both.1 roots both.0, part_in_both both.0 both.1 roots both.1)

  abbrev pub small_leaving : Region → Valuation → State × State
  small_leaving region values =
      let both = leaving_states basis outer region values in
      (part_in_both both.0 both.1 (roots_of region values) both.0, part_in_both both.0 both.1 (roots_of region values) both.1)
