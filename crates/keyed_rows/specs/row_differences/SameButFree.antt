-- Tables that are fresh ones, but for what their free cells hold.
-- Source: this project's, as in the tables that an update keeps.
use Rattle.std.specs.Prelude.{◌≡◌, ◌<◌, All, Bool, IsTrue, false, length}
use Rattle.round_trip.specs.Words.{TableId, ColId, Null, StoreModel, Tables, AreErased, AreSameTables, cell_of, key_columns, rows_in}
use Rattle.table_files.specs.InOrder.{AreToldApartBy}

-- the tables with null in every free cell are the fresh ones, up to the order of rows
pub record AreSameButFree (store : StoreModel) (is_free : TableId → ColId → Bool) (tables fresh : Tables) : Type 0 where
  pub erased : Tables
  pub are_erased : AreErased store (λ t col. IsTrue (is_free t col)) tables erased
  pub same : AreSameTables erased fresh

-- no two rows of a table have one primary key
abbrev pub HaveRowsApart : StoreModel → Tables → Type 0
HaveRowsApart store tables = (t : TableId) → AreToldApartBy (key_columns store t) (rows_in tables t)

-- the columns of each primary key are columns of its table
abbrev pub HasKeysWithin : StoreModel → Type 0
HasKeysWithin store = All (λ table. All (λ col. col.index < length table.cols) table.key) store.tables

-- every free cell holds null
abbrev pub HaveNullFreeCells : (TableId → ColId → Bool) → Tables → Type 0
HaveNullFreeCells is_free tables = (t : TableId) (col : ColId) → IsTrue (is_free t col) → All (λ row. cell_of row col ≡ Null) (rows_in tables t)

-- no column of a primary key is free
abbrev pub HasKeptKeys : StoreModel → (TableId → ColId → Bool) → Type 0
HasKeptKeys store is_free = (t : TableId) → All (λ col. is_free t col ≡ false) (key_columns store t)
