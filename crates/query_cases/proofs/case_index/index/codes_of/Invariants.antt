use Rattle.std.proofs.Common.{◌≡◌, map, take}
use Rattle.std.specs.List.{enumerate_from}
use Rattle.query_cases.specs.case_index.Found.{numbered_code, shown_code}
use Rattle.query_cases.proofs.case_index.index.codes_of.Given as goal

-- the cases so far have their codes
abbrev pub invariant-loop-place : goal.invariant-loop-place
invariant-loop-place l = map shown_code l.coded.items ≡ map (numbered_code l.telling) (take l.place (enumerate_from 0 l.cases))
