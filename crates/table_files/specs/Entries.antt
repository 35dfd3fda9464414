-- The entries by which rows are put in order: a row, and beside it its cells in the first two of the columns.
-- Source: this project's.
use Rattle.std.specs.Prelude.{◌≡◌, List, drop, get_or}
use Rattle.std.specs.Cmp.Lexicographic.{slice_cmp}
use Rattle.std.specs.declared.cmp.Ordering.{Ordering}
use Rattle.std.specs.Ordering.{ordering_then}
use Rattle.emc_base.specs.Order.{value_cmp}
use Rattle.emc_base.specs.ValueRefs.{shown_value}
use Rattle.round_trip.specs.Words.{ColId, Value, Null, Row, cells_of}
use Rattle.table_files.specs.declared.sort_entry.SortEntry.{SortEntry}

-- a row's cell in the first of some columns; null where there is none
abbrev pub first_cell : Row → List ColId → Value
first_cell row cols = get_or (cells_of row cols) 0 Null

-- an entry holds its row's cells in the first and in the second of the columns
abbrev pub HasFirstCells : List ColId → SortEntry → Type 0
HasFirstCells cols entry = (shown_value entry.first ≡ first_cell entry.row.now cols) × (shown_value entry.second ≡ first_cell entry.row.now (drop 1 cols))

-- by the cells that entries hold, and then by those of their rows
abbrev pub entry_cmp : List ColId → SortEntry → SortEntry → Ordering
entry_cmp cols one other =
    ordering_then (value_cmp (shown_value one.first) (shown_value other.first))
    (ordering_then (value_cmp (shown_value one.second) (shown_value other.second))
    (slice_cmp value_cmp (cells_of one.row.now cols) (cells_of other.row.now cols)))
