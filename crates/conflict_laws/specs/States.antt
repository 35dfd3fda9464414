-- What the laws ask for: states that hold entities of regions, and that nothing clashes.
-- Source: this project's.
use Rattle.round_trip.specs.Words.{State}
use Rattle.round_trip.specs.declared.FailKind.TheVariants as kind
use Rattle.cells.specs.Limits.{IsWithinLimits}
use Rattle.regions.specs.declared.region.Region.{Region}
use Rattle.regions.specs.Basis.{Basis}
use Rattle.regions.specs.Patterns.{Valuation}
use Rattle.regions.specs.region_laws.IsBasis.{IsBasis}
use Rattle.region_states.specs.conflicts.There.{NoneFailsBy}
use Rattle.host_states.specs.Hosting.{HaveFewPartners, HostsFocuses, HostsRivals, LeavesOut}

-- a basis of a schema within the limits, with a state for each region and admissible values of it
pub record FocusStates (basis : Basis) : Type 0 where
  pub is_basis : IsBasis basis
  pub limits : IsWithinLimits basis.schema
  pub state : Region → Valuation → State
  pub hosts : HostsFocuses basis 0 state

-- the same, where no legal state clashes
pub record ClearStates (basis : Basis) : Type 0 where
  pub given : FocusStates basis
  pub no_clash : NoneFailsBy basis.schema kind.Clash

-- with states that hold rivals, and such as leave an entity out; no entity may have any number of partners
pub record RivalStates (basis : Basis) : Type 0 where
  pub clear : ClearStates basis
  pub rivals : Region → Valuation → Region → Valuation → State × State
  pub hold : HostsRivals basis 0 rivals
  pub leaving : Region → Valuation → State × State
  pub leave : LeavesOut basis 0 leaving
  pub few : HaveFewPartners basis
