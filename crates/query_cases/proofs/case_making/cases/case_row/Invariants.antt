use Rattle.std.proofs.Common.{◌≡◌, map, take}
use Rattle.std.specs.List.{enumerate_from}
use Rattle.cells.specs.Cells.{is_free_in}
use Rattle.case_laws.specs.region_cases.Cases.{case_cell}
use Rattle.query_cases.proofs.case_making.cases.case_row.Given as goal

-- the cells of the columns so far have come
abbrev pub invariant-loop-index : goal.invariant-loop-index
invariant-loop-index l = l.cells ≡ map (λ placed. case_cell (is_free_in l.parts.cells.now) l.parts.model.now l.atoms l.row.table (record { index = placed.0 }) placed.1)
    (take l.index (enumerate_from 0 l.row.cells))
