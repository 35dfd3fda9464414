-- Columns that tell cases apart.
-- Source: this project's.
use Rattle.std.specs.Prelude.{◌≡◌, ℕ, List, All, Contains, slice_get, Option, Some, None}
use Rattle.std.specs.BTreeMap.{BTreeMap, get}
use Rattle.std.specs.Global.{Vec}
use Rattle.emc_base.specs.Order.{value_cmp}
use Rattle.round_trip.specs.Words.{TableId, Value}
use Rattle.regions.specs.declared.region.Region.{Region}
use Rattle.regions.specs.Basis.{Basis}
use Rattle.case_laws.specs.declared.region_cases.case.Case.{Case}
use Rattle.case_laws.specs.declared.region_cases.case.CaseCell.{CaseCell}
use Rattle.case_laws.specs.declared.region_cases.case.CaseRow.{CaseRow}
use Rattle.query_cases.specs.case_cells.Holding.{MayHold}
use Rattle.query_cases.specs.declared.case_index.telling.Column.{Column}
use Rattle.query_cases.specs.case_index.Codes.{cell_number, columns_in, number_in}

module _ (basis : Basis) where
  -- what the cell may hold is none of the known values
  abbrev pub HoldsOthers : Region → BTreeMap Value ℕ → CaseCell → Type 0
  HoldsOthers region numbers told = (value : Value) → MayHold basis region told value → get value_cmp numbers value ≡ None

  -- each value that the cell may hold has the cell's number; where there is no cell, none is told
  abbrev pub CellTells : Region → BTreeMap Value ℕ → Option CaseCell → Type 0
  CellTells region numbers None = ⊥
  CellTells region numbers (Some told) = (value : Value) → MayHold basis region told value → number_in numbers value ≡ cell_number numbers (Some told)

  -- so the column tells of a row of a region's case
  abbrev pub ColumnTells : Column → Region × CaseRow → Type 0
  ColumnTells column told = CellTells told.0 column.numbers (slice_get told.1.cells column.col.index)

  -- the column of this table tells the cases apart
  abbrev pub Tells : List Case → ℕ → Column → Type 0
  Tells cases t column = (case : Case) (row : CaseRow) → Contains cases case → Contains case.rows row → row.table.index ≡ t → ColumnTells column (case.region, row)

  -- all these columns of tables do
  abbrev pub AllTell : List Case → BTreeMap ℕ (Vec Column) → Type 0
  AllTell cases telling = (t : TableId) → All (Tells cases t.index) (columns_in telling t)
