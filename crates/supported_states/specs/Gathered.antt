-- Keys that are gathered from the last one on, each once.
-- Source: this project's.
use Rattle.std.specs.Prelude.{◌≡◌, List, reverse}
use Rattle.std.specs.BTreeSet.{BTreeSet}
use Rattle.schema_laws.specs.state_demand.MadeTables.{distinct}
use Rattle.population.specs.declared.placed.PlacedKey.{PlacedKey}
use Rattle.population.specs.Support.{same_placed}
use Rattle.supported_states.specs.declared.spots.Spot.{Spot}
use Rattle.supported_states.specs.Spots.{HoldsJust}

-- of the keys behind each is kept once, the last one first, and these are known
pub record IsGathered (behind : List PlacedKey) (spots : BTreeSet Spot) (kept : List PlacedKey) : Type 0 where
  pub once : reverse kept ≡ distinct same_placed behind
  pub known : HoldsJust behind spots
