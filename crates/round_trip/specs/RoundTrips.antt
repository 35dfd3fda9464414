-- The round trip. Source: the criterion of Melnik, Adya and Bernstein, SIGMOD 2007, that query after update is the identity.
use Rattle.round_trip.specs.Types.{Place, Schema, State, IsSameState, Tables, AreSameTables}
use Rattle.round_trip.specs.declared.FailKind.{FailKind}
use Rattle.round_trip.specs.legality.Legal.{IsLegal}
use Rattle.round_trip.specs.legality.LegalTables.{AreLegalTables}
use Rattle.round_trip.specs.TablesAre.{TablesAre}
use Rattle.round_trip.specs.Satisfies.{Satisfies}
use Rattle.round_trip.specs.FailsAt.{FailsAt}

-- no legal state fails by any kind
abbrev pub RoundTrips : Schema → Type 0
RoundTrips schema = (kind : FailKind) (place : Place) (c d : State) → ¬ FailsAt schema kind place c d

-- a state's tables: legal, and in agreement with each fragment
pub record HasGoodTables (schema : Schema) (state : State) : Type 0 where
  pub tables : Tables
  pub defined : TablesAre schema state tables
  pub legal : AreLegalTables schema.store tables
  pub satisfied : Satisfies schema state tables

-- The same in the positive: each legal state has tables that are legal and satisfy each fragment, and legal states with the same
-- tables are the same state.
pub record KeepsEveryState (schema : Schema) : Type 0 where
  pub stored : (state : State) → IsLegal schema.model state → HasGoodTables schema state
  pub told_apart : (c d : State) (s t : Tables) → IsLegal schema.model c → IsLegal schema.model d
      → TablesAre schema c s → TablesAre schema d t → AreSameTables s t → IsSameState c d

-- what an accepted mapping promises: no legal state fails, and each has tables of its own
pub record Keeps (schema : Schema) : Type 0 where
  pub round_trips : RoundTrips schema
  pub every_state : KeepsEveryState schema
