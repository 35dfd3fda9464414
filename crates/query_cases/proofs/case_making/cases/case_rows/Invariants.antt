use Rattle.std.proofs.Common.{◌≡◌, map, take}
use Rattle.cells.specs.Cells.{is_free_in}
use Rattle.case_laws.specs.region_cases.Cases.{case_row}
use Rattle.query_cases.proofs.case_making.cases.case_rows.Given as goal

-- the rows so far have come
abbrev pub invariant-loop-row : goal.invariant-loop-row
invariant-loop-row l = l.made ≡ map (case_row (is_free_in l.parts.cells.now) l.parts.model.now l.atoms) (take l.row-index l.rows)
