use Rattle.std.proofs.Common.{take}
use Rattle.member_groups.proofs.mapping_asks.Firsts.{HoldsFirsts}
use Rattle.member_groups.proofs.mapping_asks.several.with_several.Given as goal

-- the first of each number so far is noted, and the numbers that stand with two
abbrev pub invariant-loop-number : goal.invariant-loop-number
invariant-loop-number l = HoldsFirsts (take l.number-index l.entries) l.firsts l.several
