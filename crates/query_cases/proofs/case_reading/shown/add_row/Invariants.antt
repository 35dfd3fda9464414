use Rattle.std.proofs.Common.{◌≡◌, ◌++◌, flat_map, take}
use Rattle.std.specs.List.{enumerate_from}
use Rattle.query_cases.specs.case_reading.Shown.{shown_cell}
use Rattle.query_cases.proofs.case_reading.shown.add_row.Given as goal

-- those of the cells so far have come
abbrev pub invariant-loop-col : goal.invariant-loop-col
invariant-loop-col l = l.shown ≡ l.initial.shown ++ flat_map (shown_cell l.row) (take l.col (enumerate_from 0 l.told.cells))
