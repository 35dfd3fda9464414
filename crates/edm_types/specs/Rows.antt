-- Tables as lists of rows. A cell that isn't there counts as null.
-- Source: SSDL version 3, EntitySet, EntityType and Key.
use Rattle.std.specs.Prelude.{◌≡◌, List, [], map, length, slice_get, All, IsPermutation, unwrap_or}
use Rattle.edm_types.specs.Types.{TableId, ColId, Value, Null, StoreModel, Table, Row, At}

-- rows for each table
abbrev pub Tables : Type 0
Tables = List (List Row)

-- the rows of a table
abbrev pub rows_in : Tables → TableId → List Row
rows_in tables table = unwrap_or (slice_get tables table.index) []

-- a row's cell of a column; null where the row has none
abbrev pub cell_of : Row → ColId → Value
cell_of row col = unwrap_or (slice_get row.cells col.index) Null

-- a row's cells of several columns
abbrev pub cells_of : Row → List ColId → List Value
cells_of row cols = map (cell_of row) cols

-- a row's primary key
abbrev pub row_key : Table → Row → List Value
row_key table row = cells_of row table.key

-- a list for each table of the store, of rows with a cell for each column
pub record AreTables (store : StoreModel) (tables : Tables) : Type 0 where
  pub each : length tables ≡ length store.tables
  pub rows : (t : TableId) (table : Table) → At store.tables t.index table → All (λ row. length row.cells ≡ length table.cols) (rows_in tables t)

-- the same rows in each table, in any order
abbrev pub AreSameTables : Tables → Tables → Type 0
AreSameTables s t = (table : TableId) → IsPermutation (rows_in s table) (rows_in t table)
