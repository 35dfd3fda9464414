-- The cells of a case that show a property.
-- Source: the query views of Melnik, Adya and Bernstein, SIGMOD 2007.
use Rattle.std.specs.Prelude.{ℕ, List, [], ◌∷◌, flat_map}
use Rattle.std.specs.List.{enumerate_from}
use Rattle.round_trip.specs.Words.{PropId}
use Rattle.case_laws.specs.declared.region_cases.case.CaseCell.{CaseCell}
use Rattle.case_laws.specs.declared.region_cases.case.CaseCell.TheVariants as cell
use Rattle.case_laws.specs.declared.region_cases.case.CaseRow.{CaseRow}
use Rattle.query_cases.specs.declared.case_reading.reading.CellPlace.{CellPlace}

-- a property with the place of a cell that shows it, if the cell does
abbrev pub shown_cell : ℕ → ℕ × CaseCell → List (PropId × CellPlace)
shown_cell row (col, cell.Prop p) = (p, record { row = row; col = col }) ∷ []
shown_cell row (col, told) = []

-- those of a numbered row
abbrev pub shown_row : ℕ × CaseRow → List (PropId × CellPlace)
shown_row entry = flat_map (shown_cell entry.0) (enumerate_from 0 entry.1.cells)

-- those of all rows, in their order
abbrev pub shown_props : List CaseRow → List (PropId × CellPlace)
shown_props rows = flat_map shown_row (enumerate_from 0 rows)
