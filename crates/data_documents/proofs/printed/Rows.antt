-- The tree of tables of a store gives the tables.
use Rattle.std.proofs.Common.{◌≡◌, [], length, map, unwrap_or, All, option_and_then, ap, ◌∙◌}
use Rattle.serde_json.specs.Data.{Data}
use Rattle.serde_json.specs.Find.{get}
use Rattle.emc_base.specs.Lists.{At}
use Rattle.round_trip.specs.Words.{TableId, ColId, StoreModel, Table, Column, Row, Null, Tables, rows_in, cell_of}
use Rattle.table_files.specs.Tells.{TellsRow, TellsTables}
use Rattle.data_documents.specs.shape_faults.Values.{value_in}
use Rattle.data_documents.specs.table_documents.Tables.{cell_in, row_in, rows_of_table, tables_in}
use Rattle.data_documents.proofs.printed.Entries.{member_back}
use Rattle.data_documents.proofs.printed.Lists.{images_agree}
use Rattle.data_documents.proofs.printed.Values.{IsGood}

-- a cell for each column, whose tree gives it
pub record IsGoodRow (table : Table) (row : Row) : Type 0 where
  pub each : length row.cells ≡ length table.cols
  pub cells : (col : ColId) (column : Column) → At table.cols col.index column → IsGood column.kind (cell_of row col)

-- rows of this kind for each table
pub record AreGoodTables (store : StoreModel) (tables : Tables) : Type 0 where
  pub each : length tables ≡ length store.tables
  pub rows : (t : TableId) (table : Table) → At store.tables t.index table → All (IsGoodRow table) (rows_in tables t)

-- the tree of a row gives the row
row_back : (table : Table) (row : Row) (tree : Data) → IsGoodRow table row → TellsRow table row tree → row_in table.cols tree ≡ row
row_back table row tree good tells =
    let cells : map (cell_in tree) table.cols ≡ row.cells =
    images_agree (cell_in tree) Null table.cols row.cells good.each (λ i column here.
    let col : ColId = record { index = i } in
    ap (λ found. unwrap_or (option_and_then (value_in column.kind) found) Null) (tells.cells col column here)
    ∙ ap (λ found. unwrap_or found Null) (good.cells col column here).back) in
    λ k. record { cells = cells k }

-- that of all tables gives the tables
pub tables_back : (store : StoreModel) (tables : Tables) → AreGoodTables store tables → (tree : Data) → TellsTables store tables tree → tables_in store tree ≡ tables
tables_back store tables good tree tells = images_agree (rows_of_table tree) [] store.tables tables good.each (λ i table here.
    let t : TableId = record { index = i } in
    member_back (IsGoodRow table) (TellsRow table) (row_in table.cols) (row_back table) (rows_in tables t) (good.rows t table here) (get table.name tree) (tells.rows t table here))
