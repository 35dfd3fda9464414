use Rattle.std.proofs.Common.{◌≡◌, take}
use Rattle.csdl_meaning.proofs.csdl_making.kinds.members_of.Given as goal

-- the numbers that were passed
abbrev pub invariant-loop-number : goal.invariant-loop-number
invariant-loop-number l = l.members ≡ take l.number-index l.numbers
