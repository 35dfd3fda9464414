-- What is saved whatever the order: the premises under which saving changes refuses nothing.
-- Source: this project's.
use Rattle.std.specs.Prelude.{◌≡◌, List, All, Result, Ok, Err}
use Rattle.round_trip.specs.Words.{AreKept, AreLegalTables, IsLegal, Schema, State, Tables}
use Rattle.case_laws.specs.Reading.{HasStateTables}
use Rattle.entity_changes.specs.Changes.{after, IsChange}
use Rattle.entity_changes.specs.Refusals.{AreAccepted}
use Rattle.entity_changes.specs.declared.change.Change.{Change}
use Rattle.row_changes.specs.Differences as difference
use Rattle.row_changes.specs.Orders.{IsCycle}
use Rattle.row_changes.specs.declared.change.RowChange.{RowChange}
use Rattle.mapping_core.specs.declared.saving.fault.SaveFault.{SaveFault}
use Rattle.mapping_core.specs.declared.saving.fault.SaveFault.TheVariants.{Memory}
use Rattle.mapping_core.specs.declared.saving.saved.Saved.{Saved}
use Rattle.mapping_core.specs.states.Saves.{AreSaved}

module _ (schema : Schema) (tables : Tables) where
  -- legal tables of a legal state, and changes of it: none is refused, the state afterwards is legal, so are its tables with free columns kept, and no row changes that lead to
  -- them have to come before one another in a ring
  pub record CanBeSaved (state : State) (changes : List Change) : Type 0 where
    pub legal : IsLegal schema.model state
    pub legal_tables : AreLegalTables schema.store tables
    pub own : HasStateTables schema state tables
    pub are_changes : All (IsChange schema.model) changes
    pub accepted : AreAccepted schema.model state changes
    pub legal_after : IsLegal schema.model (after schema.model state changes)
    pub kept : Tables
    pub are_kept : AreKept schema tables (after schema.model state changes) kept
    pub legal_kept : AreLegalTables schema.store kept
    pub no_ring : (ring : List RowChange) → All (difference.IsChange schema.store tables kept) ring → ¬ IsCycle schema.store tables kept ring

  -- they are saved, unless memory ran out
  abbrev pub SavesUnlessMemory : List Change → Result Saved SaveFault → Type 0
  SavesUnlessMemory changes (Ok saved) = AreSaved schema tables changes saved
  SavesUnlessMemory changes (Err fault) = fault ≡ Memory
