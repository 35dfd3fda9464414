-- Keys in sets as they are looked up: a set of those that were found, and which are looked for.
-- Source: this project's.
use Rattle.std.specs.Prelude.{◌≡◌, List, Bool}
use Rattle.std.specs.BTreeSet.{BTreeSet, contains}
use Rattle.std.specs.List.{list_any}
use Rattle.std.specs.declared.cmp.Ordering.{Ordering}
use Rattle.schema_laws.specs.state_demand.Selecting.{same_key}
use Rattle.population.specs.declared.placed.PlacedKey.{PlacedKey}
use Rattle.population.specs.Support.{same_placed}
use Rattle.supported_states.specs.declared.spots.Spot.{Spot}
use Rattle.supported_states.specs.declared.spots.Pick.{Pick}
use Rattle.supported_states.specs.declared.spots.Pick.TheVariants.{At, Among}
use Rattle.supported_states.specs.contracts.spots.SpotOrd.TheImpl as spot_ord

-- the order of keys in sets
abbrev pub spot_cmp : Spot → Spot → Ordering
spot_cmp = (spot_ord.ghosts).cmp

-- a key in a set as it is looked up
abbrev pub spot_of : PlacedKey → Spot
spot_of placed = record { set = placed.set.index; key = placed.key }

-- whether a key in a set is among those that were found
abbrev pub holds : BTreeSet Spot → PlacedKey → Bool
holds found placed = contains spot_cmp found (spot_of placed)

-- the keys that were found are those of the list
abbrev pub HoldsJust : List PlacedKey → BTreeSet Spot → Type 0
HoldsJust keys found = (placed : PlacedKey) → holds found placed ≡ list_any (same_placed placed) keys

-- whether a key in a set is looked for
abbrev pub passes : Pick → PlacedKey → Bool
passes (At key) placed = same_key placed.key key.now
passes (Among found) placed = holds found.now placed
