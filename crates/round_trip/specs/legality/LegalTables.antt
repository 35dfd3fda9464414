-- Legal tables: the rules B1 to B4.
-- Source: SSDL version 3, Property, Key and ReferentialConstraint.
use Rattle.std.specs.Prelude.{◌≡◌, ◌≢◌, ◌⊎◌, List, All, Any, AllPairs, IsTrue}
use Rattle.round_trip.specs.Types.{TableId, ColId, Null, StoreModel, Table, Column, ForeignKey, Row, At, InDomain, Tables, rows_in, cell_of, cells_of, row_key, AreTables}

-- B1: null stands only in nullable columns
abbrev pub HasAllowedNullCells : Table → Row → Type 0
HasAllowedNullCells table row = (col : ColId) (column : Column) → At table.cols col.index column → cell_of row col ≡ Null → IsTrue column.nullable

-- B2: every other value is in the domain of its column
abbrev pub HasCellsInDomain : Table → Row → Type 0
HasCellsInDomain table row = (col : ColId) (column : Column) → At table.cols col.index column
    → (cell_of row col ≡ Null) ⊎ InDomain (cell_of row col) column.kind

-- B1 to B3: the rows of one table
pub record AreLegalRows (table : Table) (rows : List Row) : Type 0 where
  pub nulls : All (HasAllowedNullCells table) rows
  pub domains : All (HasCellsInDomain table) rows
  -- B3: no two have one primary key
  pub keys : AllPairs (λ row other. row_key table row ≢ row_key table other) rows

-- a row refers by a foreign key where none of the key's columns is null
abbrev pub Refers : ForeignKey → Row → Type 0
Refers key row = All (λ value. value ≢ Null) (cells_of row key.from_cols)

-- some row has, in the columns that the key points to, what this row has in the key's columns
abbrev pub FindsRow : Tables → ForeignKey → Row → Type 0
FindsRow tables key row = Any (λ target. cells_of target key.to_cols ≡ cells_of row key.from_cols) (rows_in tables key.to)

-- B4: each row that refers by the foreign key finds a row
abbrev pub KeepsForeignKey : Tables → ForeignKey → Type 0
KeepsForeignKey tables key = All (λ row. Refers key row → FindsRow tables key row) (rows_in tables key.from)

-- the tables have the store's shape and keep B1 to B4
pub record AreLegalTables (store : StoreModel) (tables : Tables) : Type 0 where
  pub shape : AreTables store tables
  pub rows : (t : TableId) (table : Table) → At store.tables t.index table → AreLegalRows table (rows_in tables t)
  pub keys : All (KeepsForeignKey tables) store.keys
