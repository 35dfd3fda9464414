use Rattle.std.proofs.Common.{take, Contains}
use Rattle.member_groups.specs.mapping_asks.Adding.{Adds, Each}
use Rattle.member_groups.specs.mapping_asks.Writes.{IsWriteBy}
use Rattle.member_groups.proofs.mapping_asks.writes.add_pairs.Given as goal

-- what the pairs so far write is added
abbrev pub invariant-loop-pair : goal.invariant-loop-pair
invariant-loop-pair l = Adds (Each (IsWriteBy l.table) (take l.pair-index l.pairs)) (Contains l.initial.writes.items) (Contains l.writes.items)
