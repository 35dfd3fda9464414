-- Rows in the order of their cells in some columns.
-- Source: SSDL version 3, Key; this project's table documents, which hold rows in the order of their primary keys.
use Rattle.std.specs.Prelude.{◌≡◌, ◌≢◌, List, map, length, AllPairs, IsPermutation, IsSortedByKey}
use Rattle.std.specs.List.Sorted.{IsStableByKey}
use Rattle.std.specs.Cmp.Lexicographic.{slice_cmp}
use Rattle.std.specs.declared.cmp.Ordering.TheVariants.{Less}
use Rattle.emc_base.specs.Order.{value_cmp}
use Rattle.round_trip.specs.Words.{TableId, ColId, StoreModel, Table, Row, At, Tables, rows_in, cells_of}
use Rattle.table_files.specs.declared.key_order.KeyOrder.{KeyOrder}

-- the same rows, risen by their cells in these columns; those that are alike there stand as they stood
pub record IsInOrderOf (cols : List ColId) (rows sorted : List Row) : Type 0 where
  pub same : IsPermutation rows sorted
  pub rising : IsSortedByKey (λ row. cells_of row cols) (slice_cmp value_cmp) sorted
  pub stable : IsStableByKey (λ row. cells_of row cols) (slice_cmp value_cmp) rows sorted

-- the rows of each table of the store, in the order of their primary keys
pub record AreInKeyOrder (store : StoreModel) (tables sorted : Tables) : Type 0 where
  pub each : length sorted ≡ length store.tables
  pub rows : (t : TableId) (table : Table) → At store.tables t.index table → IsInOrderOf table.key (rows_in tables t) (rows_in sorted t)

-- no two rows have the same cells in all of these columns
abbrev pub AreToldApartBy : List ColId → List Row → Type 0
AreToldApartBy cols rows = AllPairs (λ row other. cells_of row cols ≢ cells_of other cols) rows

-- the rows that a key order lends
abbrev pub lent_rows : KeyOrder → List Row
lent_rows order = map (λ row. row.now) order.rows.items

-- the rows of a table, each once, strictly rising by their cells in these columns
pub record IsKeyOrder (tables : Tables) (table : TableId) (cols : List ColId) (order : KeyOrder) : Type 0 where
  pub same : IsPermutation (rows_in tables table) (lent_rows order)
  pub rising : AllPairs (λ row later. slice_cmp value_cmp (cells_of row cols) (cells_of later cols) ≡ Less) (lent_rows order)
