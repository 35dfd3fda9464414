-- What loading answers where the tables are those of a state, and what reading what was printed of them answers.
use Rattle.std.specs.Prelude.{◌≡◌, Result, Ok, Err}
use Rattle.round_trip.specs.Words.{AreLegalTables, IsSameState, Schema, State, Tables, TablesAre}
use Rattle.data_documents.specs.declared.shape_faults.fault.ShapeFault.{ShapeFault}
use Rattle.data_documents.specs.declared.shape_faults.fault.ShapeFault.TheVariants as shape
use Rattle.mapping_core.specs.declared.loading.LoadFault.{LoadFault}
use Rattle.mapping_core.specs.declared.loading.LoadFault.TheVariants.{Memory}

-- the state is loaded again, unless memory ran out
abbrev pub GivesBack : State → Result State LoadFault → Type 0
GivesBack state (Ok loaded) = IsSameState state loaded
GivesBack state (Err fault) = fault ≡ Memory

-- legal tables are read, and they are the state's, unless memory ran out
abbrev pub GivesTablesBack : Schema → State → Result Tables ShapeFault → Type 0
GivesTablesBack schema state (Ok tables) = AreLegalTables schema.store tables × TablesAre schema state tables
GivesTablesBack schema state (Err fault) = fault ≡ shape.Memory

-- the state is read again, unless memory ran out
abbrev pub GivesEntitiesBack : State → Result State ShapeFault → Type 0
GivesEntitiesBack state (Ok read) = IsSameState state read
GivesEntitiesBack state (Err fault) = fault ≡ shape.Memory
