-- The first row in which two tables differ.
-- Source: this project's.
use Rattle.std.specs.Prelude.{◌≡◌, ◌≢◌, ◌<◌, ◌⊎◌, ⊤, List, [], Option, Some, None, All, Contains, Bool, false}
use Rattle.std.specs.Cmp.Lexicographic.{slice_cmp}
use Rattle.std.specs.declared.cmp.Ordering.TheVariants.{Less}
use Rattle.emc_base.specs.Order.{value_cmp}
use Rattle.round_trip.specs.Words.{TableId, ColId, Value, StoreModel, Table, Column, Row, Tables, At, cell_of, place_at, row_key, rows_in}
use Rattle.keyed_rows.specs.row_differences.SameButFree.{AreSameButFree}
use Rattle.keyed_rows.specs.declared.row_differences.differences.Difference.{Difference}

-- the row of a key among rows, or that there is none
abbrev pub IsRowAt : Table → List Row → List Value → Option Row → Type 0
IsRowAt table rows key None = All (λ row. row_key table row ≢ key) rows
IsRowAt table rows key (Some row) = Contains rows row × (row_key table row ≡ key)

-- the column isn't free, and the rows hold different values in it
abbrev pub DiffersIn : (ColId → Bool) → Row → Row → ColId → Type 0
DiffersIn is_free held demanded col = (is_free col ≡ false) × (cell_of held col ≢ cell_of demanded col)

-- the rows differ so in a column of the table
abbrev pub HasDifferentCell : (ColId → Bool) → Table → Row → Row → Type 0
HasDifferentCell is_free table held demanded = (col : ColId) × (column : Column) × At table.cols col.index column × DiffersIn is_free held demanded col

-- only one of the rows is there, or both are, and a cell differs
abbrev pub RowsDiffer : (ColId → Bool) → Table → Option Row → Option Row → Type 0
RowsDiffer is_free table None None = ⊥
RowsDiffer is_free table (Some held) (Some demanded) = HasDifferentCell is_free table held demanded
RowsDiffer is_free table None (Some demanded) = ⊤
RowsDiffer is_free table (Some held) None = ⊤

-- the rows of a key in a table differ; there may be none in one of the two tables
pub record DifferAt (store : StoreModel) (is_free : TableId → ColId → Bool) (tables fresh : Tables) (t : TableId) (key : List Value) (held demanded : Option Row) : Type 0 where
  pub table : Table
  pub is_table : At store.tables t.index table
  pub held_is : IsRowAt table (rows_in tables t) key held
  pub demanded_is : IsRowAt table (rows_in fresh t) key demanded
  pub differ : RowsDiffer (is_free t) table held demanded

-- these rows differ, and none of an earlier table, and none of an earlier key of this table
pub record IsFirstDifference (store : StoreModel) (is_free : TableId → ColId → Bool) (tables fresh : Tables) (found : Difference) : Type 0 where
  pub t : TableId
  pub table : Table
  pub is_table : At store.tables t.index table
  pub key : List Value
  pub differ : DifferAt store is_free tables fresh t key found.held found.demanded
  pub first : (u : TableId) (other : List Value) (one two : Option Row) → (u.index < t.index) ⊎ ((u ≡ t) × (slice_cmp value_cmp other key ≡ Less))
      → ¬ DifferAt store is_free tables fresh u other one two
  pub told : found.place ≡ place_at table.name key []

-- what is told: the first difference, or that the tables are the fresh ones but for free cells
abbrev pub TellsDifference : StoreModel → (TableId → ColId → Bool) → Tables → Tables → Option Difference → Type 0
TellsDifference store is_free tables fresh None = AreSameButFree store is_free tables fresh
TellsDifference store is_free tables fresh (Some found) = IsFirstDifference store is_free tables fresh found
