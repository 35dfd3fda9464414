-- Rows at the keys of others, and rows in whose free cells stands what tables hold.
-- Source: this project's.
use Rattle.std.specs.Prelude.{◌≡◌, ◌<◌, ℕ, List, [], ◌∷◌, All, AllPairs, Contains, length, Bool, IsTrue, Option, Some, None, map, unwrap_or, slice_get, if◌then◌else◌}
use Rattle.std.specs.Borrow.{Bor}
use Rattle.std.specs.Cmp.Lexicographic.{slice_cmp}
use Rattle.std.specs.List.{enumerate_from}
use Rattle.std.specs.declared.cmp.Ordering.TheVariants.{Less}
use Rattle.emc_base.specs.Lists.{At}
use Rattle.emc_base.specs.Order.{value_cmp}
use Rattle.round_trip.specs.Words.{AreSameTables, AreTables, ColId, IsKeptRow, KeepsFree, Row, StoreModel, Table, TableId, Tables, Value, cells_of, rows_in}
use Rattle.table_files.specs.InOrder.{AreToldApartBy}
use Rattle.cells.specs.Cells.{is_free_in}
use Rattle.cells.specs.declared.cells.Cells.{Cells}
use Rattle.keyed_rows.specs.declared.row_groups.groups.KeyGroup.{KeyGroup}
use Rattle.row_plans.specs.Altered.{first_of}
use Rattle.row_plans.specs.declared.altered.sides.Side.TheVariants.{Before, Afterwards}
use Rattle.row_plans.specs.declared.altered.sides.SidedRow.{SidedRow}

-- the column of the table is free, as the cells tell
abbrev pub Free : Cells → TableId → ColId → Type 0
Free cells t col = IsTrue (is_free_in cells t col)

-- the keys rise
abbrev pub HaveRisingKeys : List ColId → List Row → Type 0
HaveRisingKeys key rows = AllPairs (λ one later. slice_cmp value_cmp (cells_of one key) (cells_of later key) ≡ Less) rows

-- rows of one table, old and new ones: each has a cell for each column, and none has the key of another of its list
pub record AreRowsOf (table : Table) (old new : List Row) : Type 0 where
  pub within : All (λ col. col.index < length table.cols) table.key
  pub old_long : All (λ row. length row.cells ≡ length table.cols) old
  pub new_long : All (λ row. length row.cells ≡ length table.cols) new
  pub old_apart : AreToldApartBy table.key old
  pub new_apart : AreToldApartBy table.key new

-- of the rows of a table those that have the key of a wanted one
pub record AreHeldRows (key : List ColId) (old wanted held : List Row) : Type 0 where
  pub only : All (λ row. Contains old row × ((one : Row) × Contains wanted one × (cells_of one key ≡ cells_of row key))) held
  pub all : (row one : Row) → Contains old row → Contains wanted one → cells_of one key ≡ cells_of row key → Contains held row
  pub rising : HaveRisingKeys key held

-- each fresh row of a table, with what the old row of its key holds in free cells
pub record AreKeptRows (Free : ColId → Type 0) (table : Table) (old fresh kept : List Row) : Type 0 where
  pub only : All (λ row. (one : Row) × Contains fresh one × IsKeptRow Free table old one row) kept
  pub all : (one : Row) → Contains fresh one → (row : Row) × Contains kept row × IsKeptRow Free table old one row
  pub long : All (λ row. length row.cells ≡ length table.cols) kept
  pub rising : HaveRisingKeys table.key kept

-- so it is in each table
pub record HoldsHeld (store : StoreModel) (tables wanted held : Tables) : Type 0 where
  pub shape : AreTables store held
  pub rows : (t : TableId) (table : Table) → At store.tables t.index table → AreHeldRows table.key (rows_in tables t) (rows_in wanted t) (rows_in held t)

pub record HoldsKept (store : StoreModel) (cells : Cells) (tables fresh kept : Tables) : Type 0 where
  pub shape : AreTables store kept
  pub rows : (t : TableId) (table : Table) → At store.tables t.index table
      → AreKeptRows (Free cells t) table (rows_in tables t) (rows_in fresh t) (rows_in kept t)

-- the fresh tables, in whose free cells stands what the tables hold, up to the order of rows; these stand in the order of their keys
pub record AreKeptInOrder (store : StoreModel) (cells : Cells) (tables fresh kept : Tables) : Type 0 where
  pub shape : AreTables store kept
  pub paired : Tables
  pub keeps : KeepsFree store (Free cells) tables fresh paired
  pub same : AreSameTables paired kept
  pub rising : (t : TableId) (table : Table) → At store.tables t.index table → HaveRisingKeys table.key (rows_in kept t)

-- the row of a key, where one is wanted
abbrev pub held_by : Option (Bor Row) → Option (Bor Row) → List Row
held_by (Some row) (Some wanted) = row.now ∷ []
held_by _ _ = []

abbrev pub held_of : KeyGroup SidedRow → List Row
held_of group = held_by (first_of Before group.items.items) (first_of Afterwards group.items.items)

module _ (is_free : ColId → Bool) where
  -- the cell of a fresh row, or that of the held one where it is free
  abbrev pub kept_cell : Row → ℕ × Value → Value
  kept_cell held entry = if is_free (record { index = entry.0 }) then unwrap_or (slice_get held.cells entry.0) entry.1 else entry.1

  abbrev pub kept_cells : Row → List Value → List Value
  kept_cells held cells = map (kept_cell held) (enumerate_from 0 cells)

  -- the fresh row of a key
  abbrev pub kept_by : Option (Bor Row) → Option (Bor Row) → List Row
  kept_by (Some held) (Some fresh) = record { cells = kept_cells held.now fresh.now.cells } ∷ []
  kept_by None (Some fresh) = fresh.now ∷ []
  kept_by _ None = []

  abbrev pub kept_of : KeyGroup SidedRow → List Row
  kept_of group = kept_by (first_of Before group.items.items) (first_of Afterwards group.items.items)
