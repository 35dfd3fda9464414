use Rattle.std.proofs.Common.{◌≡◌, ◌++◌, filter}
use Rattle.dangling_states.specs.Numbers.{stays}
use Rattle.dangling_states.proofs.both.in_place.Given as goal

-- behind the entity have come those of the others so far that stay
abbrev pub invariant-loop-placed : goal.invariant-loop-placed
invariant-loop-placed l = l.all ≡ l.initial.all ++ filter (stays l.model l.set l.key) l.yielded
