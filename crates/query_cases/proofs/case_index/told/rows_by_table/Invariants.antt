use Rattle.std.proofs.Common.{◌≡◌, map, take}
use Rattle.std.specs.List.{flat_map}
use Rattle.query_cases.specs.case_index.Told.{case_rows, keyed_row}
use Rattle.query_cases.proofs.case_index.told.rows_by_table.Given as goal

-- the rows of the cases so far have come
abbrev pub invariant-loop-case : goal.invariant-loop-case
invariant-loop-case l = map keyed_row l.told.items ≡ flat_map case_rows (take l.case-index l.cases)
