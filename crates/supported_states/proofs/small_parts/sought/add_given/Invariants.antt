use Rattle.std.proofs.Common.{◌≡◌, ◌++◌, take}
use Rattle.supported_states.specs.small_parts.Sought.{given_sought}
use Rattle.supported_states.proofs.small_parts.sought.add_given.Given as goal

-- those given so far have come
abbrev pub invariant-loop-placed : goal.invariant-loop-placed
invariant-loop-placed l = l.entities ≡ l.initial.entities ++ given_sought l.sought l.set (take l.placed-index l.placed-items)
