use Rattle.std.proofs.Common.{◌≡◌, take}
use Rattle.case_laws.specs.candidates.Rows.{shown_rows}
use Rattle.query_cases.specs.case_index.Codes.{rows_code}
use Rattle.query_cases.proofs.case_index.codes.rows_code.Given as goal

-- the code of the rows so far has come
abbrev pub invariant-loop-placed : goal.invariant-loop-placed
invariant-loop-placed l = l.code.items ≡ rows_code l.telling (shown_rows (take l.placed-index l.rows))
