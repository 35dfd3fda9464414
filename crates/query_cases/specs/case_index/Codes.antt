-- What rows hold, and what cases tell of them, as lists of numbers.
-- Source: this project's.
use Rattle.std.specs.Prelude.{ℕ, List, ◌∷◌, map, slice_get, Option, Some}
use Rattle.std.specs.BTreeMap.{BTreeMap, get}
use Rattle.std.specs.Global.{Vec}
use Rattle.std.specs.List.{flat_map}
use Rattle.std.specs.Option.{unwrap_or}
use Rattle.std.specs.Ordering.{nat_cmp}
use Rattle.emc_base.specs.Order.{value_cmp}
use Rattle.groupings.specs.item_groups.Groups.{items_at}
use Rattle.round_trip.specs.Words.{TableId, Value, Row, cell_of}
use Rattle.case_laws.specs.declared.region_cases.case.Case.{Case}
use Rattle.case_laws.specs.declared.region_cases.case.CaseCell.{CaseCell}
use Rattle.case_laws.specs.declared.region_cases.case.CaseCell.TheVariants as cell
use Rattle.query_cases.specs.declared.case_index.telling.Column.{Column}

-- the number of a value: 0 where it is none of the known ones
abbrev pub number_in : BTreeMap Value ℕ → Value → ℕ
number_in numbers value = unwrap_or (get value_cmp numbers value) 0

-- the number of a constant, and 0 of another cell, or of none
abbrev pub cell_number : BTreeMap Value ℕ → Option CaseCell → ℕ
cell_number numbers (Some (cell.Const value)) = number_in numbers value
cell_number numbers other = 0

-- the number of what cells of a case tell of a column
abbrev pub told_number : List CaseCell → Column → ℕ
told_number cells column = cell_number column.numbers (slice_get cells column.col.index)

-- the number of what a row holds in a column
abbrev pub held_number : Row → Column → ℕ
held_number row column = number_in column.numbers (cell_of row column.col)

module _ (telling : BTreeMap ℕ (Vec Column)) where
  -- the telling columns of a table
  abbrev pub columns_in : TableId → List Column
  columns_in t = items_at nat_cmp telling t.index

  -- the table, and the number of each of its telling columns
  abbrev pub row_code : TableId → (Column → ℕ) → List ℕ
  row_code t number = t.index ∷ map number (columns_in t)

  -- the code of rows
  abbrev pub rows_code : List (TableId × Row) → List ℕ
  rows_code rows = flat_map (λ placed. row_code placed.0 (held_number placed.1)) rows

  -- the code of a case
  abbrev pub case_code : Case → List ℕ
  case_code case = flat_map (λ row. row_code row.table (told_number row.cells)) case.rows
