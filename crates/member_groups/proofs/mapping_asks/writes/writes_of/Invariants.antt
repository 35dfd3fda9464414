use Rattle.std.proofs.Common.{take, Contains}
use Rattle.member_groups.specs.mapping_asks.Adding.{Adds, Each}
use Rattle.member_groups.specs.mapping_asks.Writes.{WritesBy}
use Rattle.member_groups.proofs.mapping_asks.writes.writes_of.Given as goal

-- what the fragments so far write is added
abbrev pub invariant-loop-fragment : goal.invariant-loop-fragment
invariant-loop-fragment l = Adds (Each WritesBy (take l.fragment-index l.fragments)) (Contains l.initial.writes.items) (Contains l.writes.items)
