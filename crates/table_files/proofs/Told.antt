-- The tree of tables tells them, where names are apart.
use Rattle.std.proofs.Common.{◌≡◌, ℕ, List, map, ◌∙◌}
use Rattle.std.specs.Prelude.{⊤}
use Rattle.std.specs.List.{enumerate_from}
use Rattle.std.proofs.lemmas.Simd.{map-map}
use Rattle.emc_base.specs.Lists.{AreApart}
use Rattle.emc_base.proofs.Mapped.{contains_enumerated, contains_map, map-enumerated, all_zip-map}
use Rattle.serde_json.specs.Data.{Data}
use Rattle.json_form.proofs.Told.{told, told_only}
use Rattle.round_trip.specs.Words.{StoreModel, Table, Column, Row, Tables, rows_in}
use Rattle.table_files.specs.TablesTree.{cell_member, row_tree, table_member, tables_tree}
use Rattle.table_files.specs.Tells.{column_names, table_names, HasApartNames, TellsRow, TellsTables}

tells_row : (table : Table) (row : Row) → AreApart (column_names table) → TellsRow table row (row_tree table row)
tells_row table row apart =
    let entries = map (cell_member row) (enumerate_from 0 table.cols) in
    let names : map (λ (entry : List ℕ × Data). entry.0) entries ≡ column_names table =
    map-map (λ (entry : List ℕ × Data). entry.0) (cell_member row) (enumerate_from 0 table.cols) ∙ map-enumerated (λ (column : Column). column.name) 0 table.cols in
    record {
      cells = λ col column here. told entries (column_names table) names apart (cell_member row (col.index, column))
          (contains_map (cell_member row) (enumerate_from 0 table.cols) (col.index, column) (contains_enumerated table.cols col.index column here));
      only = told_only entries (column_names table) names;
    }

pub tells_tables : (store : StoreModel) (tables : Tables) → HasApartNames store → TellsTables store tables (tables_tree store tables)
tells_tables store tables apart =
    let entries = map (table_member tables) (enumerate_from 0 store.tables) in
    let names : map (λ (entry : List ℕ × Data). entry.0) entries ≡ table_names store =
    map-map (λ (entry : List ℕ × Data). entry.0) (table_member tables) (enumerate_from 0 store.tables) ∙ map-enumerated (λ (table : Table). table.name) 0 store.tables in
    record {
      rows = λ t table here. (
        map (row_tree table) (rows_in tables t),
        told entries (table_names store) names apart.tables (table_member tables (t.index, table))
            (contains_map (table_member tables) (enumerate_from 0 store.tables) (t.index, table) (contains_enumerated store.tables t.index table here)),
        all_zip-map (λ _. ⊤) (TellsRow table) (row_tree table) (λ row _. tells_row table row (apart.columns t table here)) (rows_in tables t) (λ k d within. tt),
      );
      only = told_only entries (table_names store) names;
    }
