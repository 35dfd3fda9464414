use Rattle.std.proofs.Common.{◌≡◌, [], filter, take}
use Rattle.std.specs.List.{enumerate_from}
use Rattle.supported_states.proofs.Concrete.{is_found}
use Rattle.supported_states.proofs.declared.first_concrete.Given as goal

-- none of the types so far is concrete and under the type
abbrev pub invariant-loop-place : goal.invariant-loop-place
invariant-loop-place l = filter (is_found l.model l.t) (take l.place (enumerate_from 0 l.declared-items)) ≡ []
