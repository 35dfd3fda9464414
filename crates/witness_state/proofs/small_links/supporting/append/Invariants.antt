use Rattle.std.proofs.Common.{◌≡◌, ◌++◌, take}
use Rattle.witness_state.proofs.small_links.supporting.append.Given as goal

-- the keys so far have come
abbrev pub invariant-loop-placed : goal.invariant-loop-placed
invariant-loop-placed l = l.all ≡ l.initial.all ++ take l.placed-index l.keys
