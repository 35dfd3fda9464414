-- The tables of the states of a sound schema: that they are there, are one, and are good.
use Rattle.std.proofs.Common.{Decides}
use Rattle.round_trip.specs.Words.{Place, Schema, State, Tables, AreLegalTables, AreSameTables, HasGoodTables, HasNoClash, IsLegal, RoundTrips, TablesAre}
use Rattle.round_trip.specs.FailsAt.{Clashes, Dangles, LeavesNull}
use Rattle.round_trip.specs.soundness.mappings.Mappings.{IsSoundSchema}
use Rattle.schema_laws.specs.state_demand.Writings.{AreWritings}
use Rattle.schema_laws.proofs.state_demand.tables.Good.{legal_tables, stored}
use Rattle.schema_laws.proofs.state_demand.writings.NoClash.{Decides-no_clash}
use Rattle.schema_laws.proofs.state_demand.tables.ReadBack.{no_clash_from_none}
use Rattle.schema_laws.proofs.state_demand.tables.SameTables.{same_tables}
use Rattle.schema_laws.proofs.state_demand.tables.Tables.{tables_are}
use Rattle.schema_laws.proofs.state_demand.writings.Writings.{are_writings}
use Rattle.schema_laws.specs.sound_demand.Deriving.{derives}
use Rattle.schema_laws.specs.sound_demand.Made.{has_no_clash, tables_for, writings_in}
use Rattle.schema_laws.proofs.sound_demand.Deriving.{decides_types}
use Rattle.schema_laws.proofs.sound_demand.Fitting.{has_assocs, has_tables, well_written}
use Rattle.schema_laws.proofs.sound_demand.Holding.{holds_values}
use Rattle.schema_laws.proofs.sound_demand.Keys.{inherits_keys}

module _ (schema : Schema) (sound : IsSoundSchema schema) where
  pub writings_listed : (state : State) → AreWritings schema state (writings_in schema state)
  writings_listed state = are_writings (derives schema.model) schema (decides_types schema.model sound.model) state

  pub tables_there : (state : State) → HasNoClash schema state → TablesAre schema state (tables_for schema state)
  tables_there state no_clash = tables_are schema (well_written schema sound) state (writings_in schema state) (writings_listed state) no_clash

  pub tables_one : (state : State) (tables : Tables) → TablesAre schema state tables → AreSameTables tables (tables_for schema state)
  tables_one state tables are = same_tables schema state tables (tables_for schema state) are (tables_there state are.no_clash)

  pub clash_decided : (state : State) → Decides (has_no_clash schema state) (HasNoClash schema state)
  clash_decided state = Decides-no_clash schema state (writings_in schema state) (writings_listed state)

  pub clash_shown : (state : State) → ((place : Place) → ¬ Clashes schema state place) → HasNoClash schema state
  clash_shown = no_clash_from_none schema (well_written schema sound) (has_tables schema sound)

  pub legal_made : (state : State) → IsLegal schema.model state → ((place : Place) → ¬ Clashes schema state place) → ((place : Place) → ¬ LeavesNull schema state place)
      → ((place : Place) → ¬ Dangles schema state place) → TablesAre schema state (tables_for schema state) × AreLegalTables schema.store (tables_for schema state)
  legal_made state legal no_clash no_null no_dangling =
      let are = tables_there state (clash_shown state no_clash) in
      (are, legal_tables schema (inherits_keys schema.model sound.model) (holds_values schema sound) state legal (tables_for schema state) are no_null no_dangling)

  pub all_stored : RoundTrips schema → (state : State) → IsLegal schema.model state → HasGoodTables schema state
  all_stored = stored schema (derives schema.model) (decides_types schema.model sound.model) (well_written schema sound) (has_tables schema sound) (has_assocs schema sound)
      (inherits_keys schema.model sound.model) (holds_values schema sound)
