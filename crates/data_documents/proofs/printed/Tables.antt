-- What is printed of legal tables of a sound store is read as these tables.
use Rattle.std.proofs.Common.{◌≡◌, All, sym, ap, ◌∙◌, arith}
use Rattle.std.proofs.lemmas.List.Sorted.{All-permutation}
use Rattle.serde_json.specs.Data.{Data}
use Rattle.serde_json.specs.Read.{max_depth}
use Rattle.emc_base.specs.Lists.{At}
use Rattle.json_form.specs.Documents.{printed}
use Rattle.json_form.specs.TreeParts.{tree_at}
use Rattle.json_form.proofs.Views.{tree_at-text}
use Rattle.round_trip.specs.Words.{TableId, ColId, StoreModel, Table, Column, Tables, rows_in, cell_of, AreLegalTables}
use Rattle.round_trip.specs.soundness.Kinds.{IsSoundKind}
use Rattle.round_trip.specs.soundness.Stores.{IsSoundColumn, IsSoundStore, IsSoundTable}
use Rattle.table_files.specs.InOrder.{AreInKeyOrder}
use Rattle.table_files.specs.Tells.{IsTreeInKeyOrder}
use Rattle.table_files.specs.TablesTree.{tables_tree}
use Rattle.table_files.proofs.Told.{tells_tables}
use Rattle.data_documents.specs.printed.Again.{TellsTablesAgain}
use Rattle.data_documents.specs.printed.Names.{HasTextNames}
use Rattle.data_documents.proofs.sound_names.Names.{store_names}
use Rattle.data_documents.proofs.printed.Lists.{all_at}
use Rattle.data_documents.proofs.printed.spelled.ReadBack.{printed_text, read_back}
use Rattle.data_documents.proofs.printed.Rows.{AreGoodTables, IsGoodRow, tables_back}
use Rattle.data_documents.proofs.printed.TableShape.{no_fault, tree_whole}
use Rattle.data_documents.proofs.printed.Values.{good_value}

module _ (store : StoreModel) (sound : IsSoundStore store) (tables : Tables) (legal : AreLegalTables store tables) where
  kind_of : (t : TableId) (table : Table) → At store.tables t.index table → (col : ColId) (column : Column) → At table.cols col.index column → IsSoundKind column.kind
  kind_of t table here col column at =
      (all_at IsSoundColumn table.cols col.index column (all_at IsSoundTable store.tables t.index table sound.tables here).columns at).kind

  good_rows : (t : TableId) (table : Table) → At store.tables t.index table → All (IsGoodRow table) (rows_in tables t)
  good_rows t table here k row within = record {
    each = legal.shape.rows t table here k row within;
    cells = λ col column at. good_value column.kind (kind_of t table here col column at) (cell_of _ col) ((legal.rows t table here).domains k row within col column at);
  }

  module _ (sorted : Tables) (order : AreInKeyOrder store tables sorted) where
    good : AreGoodTables store sorted
    good = record {
      each = order.each;
      rows = λ t table here. All-permutation (IsGoodRow table) (rows_in tables t) (rows_in sorted t) (order.rows t table here).same (good_rows t table here);
    }

    told_again : HasTextNames store → (tree : Data) → tree ≡ tables_tree store sorted → TellsTablesAgain store tables (printed tree)
    told_again texts tree is =
        let apart = store_names store sound in
        let told = tables_tree store sorted in
        let whole = tree_whole store sorted good texts max_depth (omega arith) in
        record {
          tree = told;
          held = ap (λ (d : Data). tree_at (printed d)) is ∙ tree_at-text (printed told) (printed_text told whole) ∙ read_back told whole;
          again = sorted;
          order = order;
          read = record {
            shape = no_fault store sorted good apart;
            tables_are = sym (tables_back store sorted good told (tells_tables store sorted apart));
            fit = record { each = order.each; rows = λ t table here k row within. (good.rows t table here k row within).each };
          };
        }

pub tables_again : (store : StoreModel) → IsSoundStore store → HasTextNames store → (tables : Tables) → AreLegalTables store tables → (tree : Data) → IsTreeInKeyOrder store tables tree
    → TellsTablesAgain store tables (printed tree)
tables_again store sound texts tables legal tree in_order = told_again store sound tables legal in_order.sorted in_order.order texts tree in_order.is
