-- What the program above names, passed on from one place. Declares nothing.
pub use Rattle.edm_types.specs.declared.faults.RuleFault.{RuleFault}
pub use Rattle.edm_types.specs.declared.faults.LimitFault.{LimitFault}
pub use Rattle.edm_types.specs.declared.faults.Breach.{Breach}
pub use Rattle.edm_types.specs.declared.schema.Schema.{Schema}
pub use Rattle.round_trip.specs.Words.{State, Tables, AreLegalTables, AreTables, IsBreachOf, IsLegal, IsState}
pub use Rattle.round_trip.specs.legality.TableBreaches.{IsBreachOfTables}
pub use Rattle.case_laws.specs.Reading.{HasStateTables}
pub use Rattle.region_partition.specs.mapping_limits.FirstLimit.{IsFirstLimit}
pub use Rattle.mapping_core.specs.mapping_verdict.Words.{Failure, IsFailureOf}
pub use Rattle.mapping_core.specs.declared.loading.LoadFault.{LoadFault}
pub use Rattle.mapping_core.specs.Accepted.{IsAccepted, PassesNoLimit}
pub use Rattle.mapping_core.specs.Rules.{IsRead, IsToldRule, Means}
pub use Rattle.entity_changes.specs.Changes.{IsChange}
pub use Rattle.entity_changes.specs.declared.change.Change.{Change}
pub use Rattle.entity_changes.specs.declared.change.Reason.{Reason}
pub use Rattle.row_changes.specs.declared.change.RowChange.{RowChange}
pub use Rattle.mapping_core.specs.declared.saving.fault.SaveFault.{SaveFault}
pub use Rattle.mapping_core.specs.declared.saving.saved.Saved.{Saved}
pub use Rattle.mapping_core.specs.states.Documents.{HoldsChanges, HoldsNoChanges, HoldsNoState, HoldsNoTables, HoldsState, HoldsTables}
pub use Rattle.mapping_core.specs.states.Stores.{IsPrintedTables, IsTablesText}
pub use Rattle.mapping_core.specs.states.Saves.{AreSaved, Saves}
pub use Rattle.mapping_core.specs.states.SavesAll.{CanBeSaved, SavesUnlessMemory}
pub use Rattle.mapping_core.specs.states.Loads.{IsLoaded, IsStateText, Loads, LoadsLegal}
pub use Rattle.mapping_core.specs.ViewsText.{IsViewsText}
