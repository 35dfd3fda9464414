-- The tables of a state with free columns kept, in the order of keys.
use Rattle.round_trip.specs.Words.{ColId, IsFree, State, TableId, Tables, TablesAre}
use Rattle.cells.specs.Parts.{AreParts, schema_in}
use Rattle.cells.specs.declared.parts.Parts.{Parts}
use Rattle.schema_laws.proofs.same_states.SameTables.{tables_moved}
use Rattle.keyed_rows.proofs.row_differences.OfState.{rows_apart}
use Rattle.row_plans.specs.Plans.{AreKeyed}
use Rattle.delta_plan.specs.Keeping.{AreKeptInOrder, Free}
use Rattle.delta_plan.proofs.grouped.Reordered.{in_order_of_kept}
use Rattle.round_trip.specs.Words.{AreLegalTables}
use Rattle.mapping_core.specs.states.SaveParts.{AreKeptInKeyOrder}
use Rattle.mapping_core.proofs.Comparing.{legal_apart}
use Rattle.mapping_core.proofs.Telling.{cells_decide}
use Rattle.mapping_core.proofs.saved.Following.{keeps_too}

module _ (parts : Parts) (are : AreParts parts) where
  -- the cells tell which columns are free
  pub free_told : (t : TableId) (col : ColId) → Free parts.cells.now t col → IsFree (schema_in parts) t col
  free_told t col = ((cells_decide parts are).tells t col).0

  pub told_free : (t : TableId) (col : ColId) → IsFree (schema_in parts) t col → Free parts.cells.now t col
  told_free t col = ((cells_decide parts are).tells t col).1

  module _ (tables : Tables) (state : State) (fresh : Tables) (own : TablesAre (schema_in parts) state fresh) where
    -- legal tables, and those of a state, tell their rows apart
    pub keyed : AreLegalTables (schema_in parts).store tables → AreKeyed (schema_in parts).store tables fresh
    keyed legal = record {
      sound = are.sound.store;
      old_tables = legal.shape;
      new_tables = own.shape;
      old_apart = legal_apart (schema_in parts).store tables legal;
      new_apart = rows_apart (schema_in parts) state fresh own;
    }

    -- what is kept in key order is the state's
    pub kept_of_state : (kept : Tables) → AreKeptInOrder (schema_in parts).store parts.cells.now tables fresh kept → AreKeptInKeyOrder (schema_in parts) tables state kept
    kept_of_state kept in_order =
        let found = in_order_of_kept (schema_in parts).store parts.cells.now tables fresh kept in_order own.shape in
        record {
          are = record {
            tables = found.others;
            are = tables_moved (schema_in parts) state fresh found.others found.same found.shape own;
            keeps = keeps_too (Free parts.cells.now) (IsFree (schema_in parts)) free_told told_free (schema_in parts).store tables found.others kept found.keeps;
          };
          in_order = in_order.rising;
        }
