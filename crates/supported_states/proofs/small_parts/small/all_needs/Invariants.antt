use Rattle.std.proofs.Common.{◌≡◌, take}
use Rattle.supported_states.specs.small_parts.Small.{all_needs}
use Rattle.supported_states.proofs.small_parts.small.all_needs.Given as goal

-- what is needed in the states so far has come
abbrev pub invariant-loop-one : goal.invariant-loop-one
invariant-loop-one l = l.needs ≡ all_needs l.model l.row (take l.one-index l.ones) l.placed
