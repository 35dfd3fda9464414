use Rattle.std.proofs.Common.{◌≡◌, ◌++◌, take}
use Rattle.supported_states.specs.small_parts.Sought.{keys_sought}
use Rattle.supported_states.proofs.small_parts.sought.add_plain.Given as goal

-- those of the keys so far have come
abbrev pub invariant-loop-placed : goal.invariant-loop-placed
invariant-loop-placed l = l.entities ≡ l.initial.entities ++ keys_sought l.sought l.set l.entry (take l.placed-index l.placed-items)
