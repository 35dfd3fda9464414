use Rattle.std.proofs.Common.{◌≡◌, ◌++◌, take}
use Rattle.state_legality.proofs.link_legality.ends.joined_key.Given as goal

-- the first key, and the values of the second that were passed
abbrev pub invariant-loop-value : goal.invariant-loop-value
invariant-loop-value l = l.key ≡ l.first ++ take l.value-index l.value-items
