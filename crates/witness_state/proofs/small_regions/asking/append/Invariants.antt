use Rattle.std.proofs.Common.{◌≡◌, ◌++◌}
use Rattle.witness_state.proofs.small_regions.asking.append.Given as goal

-- the keys so far have come
abbrev pub invariant-loop-placed : goal.invariant-loop-placed
invariant-loop-placed l = l.keys ≡ l.initial.keys ++ l.yielded
