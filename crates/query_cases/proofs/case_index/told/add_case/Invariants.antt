use Rattle.std.proofs.Common.{◌≡◌, ◌++◌, map, take}
use Rattle.query_cases.specs.case_index.Told.{case_row, keyed_row}
use Rattle.query_cases.proofs.case_index.told.add_case.Given as goal

-- the rows so far have come behind
abbrev pub invariant-loop-row : goal.invariant-loop-row
invariant-loop-row l = map keyed_row l.told.items ≡ map keyed_row l.initial.told.items ++ map (case_row l.case.region) (take l.row-index l.case.rows)
