use Rattle.std.proofs.Common.{◌≡◌, ◌++◌, take}
use Rattle.supported_states.proofs.distinct.append.Given as goal

-- the keys so far have come
abbrev pub invariant-loop-placed : goal.invariant-loop-placed
invariant-loop-placed l = l.all ≡ l.initial.all ++ take l.placed-index l.keys
