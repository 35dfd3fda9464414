use Rattle.std.proofs.Common.{◌≡◌, take}
use Rattle.state_legality.proofs.link_legality.standing.lent.Given as goal

-- the keys that were passed are lent
abbrev pub invariant-loop-one : goal.invariant-loop-one
invariant-loop-one l = l.lent.items ≡ take l.one-index l.keys
