-- The first row in which one table differs from another.
-- Source: this project's.
use Rattle.std.specs.Prelude.{◌≡◌, ⊤, List, [], Option, Some, None, Bool, length}
use Rattle.std.specs.Cmp.Lexicographic.{slice_cmp}
use Rattle.std.specs.declared.cmp.Ordering.TheVariants.{Less}
use Rattle.emc_base.specs.Order.{value_cmp}
use Rattle.round_trip.specs.Words.{ColId, Value, Table, Row, place_at}
use Rattle.keyed_rows.specs.row_groups.Shown.{shown_cells}
use Rattle.keyed_rows.specs.declared.row_groups.groups.KeyGroup.{KeyGroup}
use Rattle.keyed_rows.specs.row_differences.Differences.{IsRowAt, RowsDiffer}
use Rattle.keyed_rows.specs.row_differences.Sides.{IsRowOf}
use Rattle.keyed_rows.specs.declared.row_differences.differences.Difference.{Difference}
use Rattle.keyed_rows.specs.declared.row_differences.sides.Side.TheVariants.{Held, Demanded}
use Rattle.keyed_rows.specs.declared.row_differences.sides.SidedRow.{SidedRow}

-- the row, if there is one, has a cell for each column
abbrev pub IsAsLong : Table → Option Row → Type 0
IsAsLong table None = ⊤
IsAsLong table (Some row) = length row.cells ≡ length table.cols

-- the rows of a key differ
abbrev pub DifferInTable : (ColId → Bool) → Table → List Row → List Row → List Value → Option Row → Option Row → Type 0
DifferInTable is_free table held demanded key one two = IsRowAt table held key one × IsRowAt table demanded key two × RowsDiffer is_free table one two

-- it tells these rows, and their place
pub record IsDifferenceOf (table : Table) (key : List Value) (one two : Option Row) (found : Difference) : Type 0 where
  pub held : found.held ≡ one
  pub demanded : found.demanded ≡ two
  pub told : found.place ≡ place_at table.name key []

-- it is the rows of a key, which differ; those of earlier keys don't
pub record IsFirstInTable (is_free : ColId → Bool) (table : Table) (held demanded : List Row) (found : Difference) : Type 0 where
  pub key : List Value
  pub differ : DifferInTable is_free table held demanded key found.held found.demanded
  pub first : (other : List Value) (one two : Option Row) → slice_cmp value_cmp other key ≡ Less → ¬ DifferInTable is_free table held demanded other one two
  pub told : found.place ≡ place_at table.name key []

-- what is told of a table: its first difference, or that there is none
abbrev pub TellsInTable : (ColId → Bool) → Table → List Row → List Row → Option Difference → Type 0
TellsInTable is_free table held demanded None = (key : List Value) (one two : Option Row) → ¬ DifferInTable is_free table held demanded key one two
TellsInTable is_free table held demanded (Some found) = IsFirstInTable is_free table held demanded found

-- what is told of two rows: that they differ, or that they don't
abbrev pub TellsOfRows : (ColId → Bool) → Table → List Value → Option Row → Option Row → Option Difference → Type 0
TellsOfRows is_free table key one two None = ¬ RowsDiffer is_free table one two
TellsOfRows is_free table key one two (Some found) = RowsDiffer is_free table one two × IsDifferenceOf table key one two found

-- what is told of a group: that of a row of each side
pub record TellsOfGroup (is_free : ColId → Bool) (table : Table) (group : KeyGroup SidedRow) (found : Option Difference) : Type 0 where
  pub one : Option Row
  pub two : Option Row
  pub is_one : IsRowOf Held group.items.items one
  pub is_two : IsRowOf Demanded group.items.items two
  pub tells : TellsOfRows is_free table (shown_cells group.key) one two found
