use Rattle.std.proofs.Common.{◌-◌, length}
use Rattle.population.specs.Kept.{needed_keys}
use Rattle.supported_states.specs.small_parts.Small.{IsWalked, states_of}
use Rattle.supported_states.proofs.small_parts.small.found_keys.Given as goal

-- what is found by the walk so far
abbrev pub invariant-loop-at : goal.invariant-loop-at
invariant-loop-at l = IsWalked l.model l.row l.ones l.roots l.found l.at

-- no more keys are found than are needed
abbrev pub decreases-loop-at : goal.decreases-loop-at
decreases-loop-at l = length (needed_keys l.model (states_of l.model l.row l.ones) l.roots) - l.at
