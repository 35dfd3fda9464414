-- Which tables are legal, row by row and cell by cell.
use Rattle.std.proofs.Common.{◌≢◌, ℕ, List}
use Rattle.std.specs.List.{AllByRecursion}
use Rattle.std.proofs.lemmas.List.Elements.{All-from_recursion, All-weaker}
use Rattle.round_trip.specs.Words.{StoreModel, Table, Column, Row, Tables, rows_in, cell_of, row_key, AreTables, HasAllowedNullCells, HasCellsInDomain, AreLegalRows, KeepsForeignKey, AreLegalTables}
use Rattle.worked_examples.specs.Ids.{col_id, table_id}
use Rattle.worked_examples.proofs.facts.Small.{EachAt, each_at, PairsByRecursion, all_pairs}
use Rattle.worked_examples.proofs.facts.Values.{FitsIn}

module _ (table : Table) where
  -- the row's i-th cell may stand in the column
  abbrev pub FitsAtColumn : Row → ℕ → Column → Type 0
  FitsAtColumn row i column = FitsIn column.kind column.nullable (cell_of row (col_id i))

  abbrev pub FitsTable : Row → Type 0
  FitsTable row = EachAt (FitsAtColumn row) table.cols

  -- rows of different keys
  abbrev pub HaveOwnRowKeys : Row → Row → Type 0
  HaveOwnRowKeys row other = row_key table row ≢ row_key table other

  nulls : (row : Row) → FitsTable row → HasAllowedNullCells table row
  nulls row fits col column at = (each_at (FitsAtColumn row) table.cols fits col.index column at).null

  domains : (row : Row) → FitsTable row → HasCellsInDomain table row
  domains row fits col column at = (each_at (FitsAtColumn row) table.cols fits col.index column at).domain

  pub legal_rows : (rows : List Row) → AllByRecursion FitsTable rows → PairsByRecursion HaveOwnRowKeys rows → AreLegalRows table rows
  legal_rows rows fit own = record {
    nulls = All-weaker FitsTable (HasAllowedNullCells table) nulls rows (All-from_recursion FitsTable rows fit);
    domains = All-weaker FitsTable (HasCellsInDomain table) domains rows (All-from_recursion FitsTable rows fit);
    keys = all_pairs HaveOwnRowKeys rows own;
  }

module _ (store : StoreModel) (tables : Tables) where
  abbrev pub LegalRowsAt : ℕ → Table → Type 0
  LegalRowsAt t table = AreLegalRows table (rows_in tables (table_id t))

  pub legal_tables : AreTables store tables → EachAt LegalRowsAt store.tables → AllByRecursion (KeepsForeignKey tables) store.keys → AreLegalTables store tables
  legal_tables shape each keys = record {
    shape = shape;
    rows = λ t table at. each_at LegalRowsAt store.tables each t.index table at;
    keys = All-from_recursion (KeepsForeignKey tables) store.keys keys;
  }
