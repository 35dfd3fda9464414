use Rattle.std.proofs.Common.{take}
use Rattle.supported_states.specs.small_parts.Small.{Finds, IsFound}
use Rattle.supported_states.proofs.small_parts.small.add_all.Given as goal

-- the keys so far are found
abbrev pub invariant-loop-placed : goal.invariant-loop-placed
invariant-loop-placed l = IsFound l.initial.found → Finds (take l.placed-index l.keys) l.initial.found l.found
