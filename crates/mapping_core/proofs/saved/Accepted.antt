-- What is accepted is saved.
use Rattle.std.proofs.Common.{List, Result, Ok, Err, refl, sym, subst}
use Rattle.round_trip.specs.Words.{AreSameTables, IsSameState, IsState, Schema, State, Tables}
use Rattle.schema_laws.proofs.same_states.SameState.{as_legal}
use Rattle.state_legality.proofs.Joined.{no_first_breach}
use Rattle.table_files.proofs.table_legality.Kept.{no_breach}
use Rattle.case_laws.specs.Reading.{DecidesFree}
use Rattle.entity_changes.specs.Changes.{after}
use Rattle.entity_changes.specs.declared.change.Change.{Change}
use Rattle.entity_changes.proofs.same.SameChange.{accepted_alike, leads_alike}
use Rattle.entity_changes.proofs.same.States.{states_after}
use Rattle.row_changes.proofs.joining.Reordered.{changes_too, cycle_too, turned}
use Rattle.mapping_core.specs.declared.saving.fault.SaveFault.{SaveFault}
use Rattle.mapping_core.specs.declared.saving.fault.SaveFault.TheVariants.{Load, Refused, Breach, FreeReference, Circular, Memory}
use Rattle.mapping_core.specs.declared.saving.saved.Saved.{Saved}
use Rattle.mapping_core.specs.states.Loads.{IsLoaded}
use Rattle.mapping_core.specs.states.Saves.{AreKeptAfter, LeadTo, Saves, Tell}
use Rattle.mapping_core.specs.states.SavesAll.{CanBeSaved, SavesUnlessMemory}
use Rattle.mapping_core.proofs.OwnTables.{given_back, legal_moved}
use Rattle.mapping_core.proofs.saved.SameKept.{same_kept}

module _ (schema : Schema) (tables : Tables) (state : State) (changes : List Change) (can : CanBeSaved schema tables state changes) where
  -- the state that the tables tell is the same
  same_told : (old : State) → Tell schema tables old → IsSameState state old
  same_told old told = told.loaded.only state can.legal can.own

  same_later : (old : State) → Tell schema tables old → IsSameState (after schema.model state changes) (after schema.model old changes)
  same_later old told = leads_alike schema.model state old can.legal.shape told.loaded.legal.shape (same_told old told) changes can.are_changes

  same_new : (old new : State) → LeadTo schema tables changes old new → IsSameState (after schema.model state changes) new
  same_new old new lead = subst (IsSameState (after schema.model state changes)) (sym lead.leads) (same_later old lead.told)

  is_new : (old new : State) → LeadTo schema tables changes old new → IsState schema.model new
  is_new old new lead = subst (IsState schema.model) (sym lead.leads) (states_after schema.model changes old lead.told.loaded.legal.shape can.are_changes)

  decided : (old : State) → (loaded : IsLoaded schema tables old) → DecidesFree schema loaded.is_free
  decided old loaded = subst (λ (one : Schema). DecidesFree one loaded.is_free) loaded.read_by.of_schema loaded.read_by.free

  same_tables_kept : (old new : State) (kept : Tables) → AreKeptAfter schema tables changes old new kept → AreSameTables can.kept kept
  same_tables_kept old new kept are = same_kept schema are.lead.told.loaded.is_free (decided old are.lead.told.loaded) tables (after schema.model state changes) new
      (same_new old new are.lead) can.kept kept can.are_kept are.are

  pub saved_so : (result : Result Saved SaveFault) → Saves schema tables changes result → SavesUnlessMemory schema tables changes result
  saved_so (Ok saved) saves = saves
  saved_so (Err (Load fault)) saves = absurd (saves.1 (given_back schema state tables can.legal can.legal_tables can.own (Err fault) saves.0))
  saved_so (Err (Refused index why)) saves =
      let refusal = saves.refusal in
      absurd (accepted_alike schema.model state saves.state can.legal.shape saves.told.loaded.legal.shape (same_told saves.state saves.told) changes can.are_changes can.accepted
      refusal.before refusal.later refusal.one why refusal.here refusal.refused)
  saved_so (Err (Breach breach)) saves =
      absurd (no_first_breach schema.model saves.new breach
      (as_legal schema.model (after schema.model state changes) saves.new (same_new saves.old saves.new saves.lead) (is_new saves.old saves.new saves.lead) can.legal_after) saves.breaks)
  saved_so (Err (FreeReference place)) saves =
      absurd (no_breach schema.store saves.kept
      (legal_moved schema.store can.kept saves.kept (same_tables_kept saves.old saves.new saves.kept saves.are) saves.are.are.keeps.shape can.legal_kept)
      (record { rule = 4; place = place }) saves.breaks)
  saved_so (Err (Circular ring)) saves =
      let back : AreSameTables saves.kept can.kept = turned can.kept saves.kept (same_tables_kept saves.old saves.new saves.kept saves.are) in
      absurd (can.no_ring ring (changes_too schema.store tables saves.kept can.kept back ring saves.changes_are) (cycle_too schema.store tables saves.kept can.kept back ring saves.cycle))
  saved_so (Err Memory) saves = refl
