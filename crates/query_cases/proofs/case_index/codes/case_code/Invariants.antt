use Rattle.std.proofs.Common.{◌≡◌, take}
use Rattle.std.specs.List.{flat_map}
use Rattle.case_laws.specs.declared.region_cases.case.CaseRow.{CaseRow}
use Rattle.query_cases.specs.case_index.Codes.{row_code, told_number}
use Rattle.query_cases.proofs.case_index.codes.case_code.Given as goal

-- the code of the rows so far has come
abbrev pub invariant-loop-row : goal.invariant-loop-row
invariant-loop-row l = l.code.items ≡ flat_map (λ (row : CaseRow). row_code l.telling row.table (told_number row.cells)) (take l.row-index l.case.rows)
