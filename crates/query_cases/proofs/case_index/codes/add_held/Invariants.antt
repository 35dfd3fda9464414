use Rattle.std.proofs.Common.{◌≡◌, ◌++◌, map, take}
use Rattle.query_cases.specs.case_index.Codes.{columns_in, held_number}
use Rattle.query_cases.proofs.case_index.codes.add_held.Given as goal

-- the numbers of the columns so far have come behind
abbrev pub invariant-loop-column : goal.invariant-loop-column
invariant-loop-column l = l.code.items ≡ l.initial.code.items ++ map (held_number l.row) (take l.column-index (columns_in l.telling l.fn.table))
