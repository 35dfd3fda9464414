use Rattle.std.proofs.Common.{◌≡◌, ◌++◌, take}
use Rattle.witness_state.proofs.small_links.places.joined.Given as goal

-- the values so far have come
abbrev pub invariant-loop-value : goal.invariant-loop-value
invariant-loop-value l = l.key ≡ l.first ++ take l.value-index l.second
