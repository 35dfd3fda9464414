use Rattle.std.proofs.Common.{◌≡◌, flat_map, take}
use Rattle.std.specs.List.{enumerate_from}
use Rattle.query_cases.specs.case_reading.Shown.{shown_row}
use Rattle.query_cases.proofs.case_reading.shown.shown_props.Given as goal

-- those of the rows so far have come
abbrev pub invariant-loop-row : goal.invariant-loop-row
invariant-loop-row l = l.shown ≡ flat_map shown_row (take l.row (enumerate_from 0 l.rows))
