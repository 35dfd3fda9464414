use Rattle.std.proofs.Common.{take, Contains}
use Rattle.member_groups.specs.mapping_asks.Adding.{Adds, Each}
use Rattle.member_groups.specs.mapping_asks.Asks.{IsImpliedBy}
use Rattle.member_groups.proofs.mapping_asks.asks.add_columns.Given as goal

-- the implied conditions on the columns so far are added
abbrev pub invariant-loop-pair : goal.invariant-loop-pair
invariant-loop-pair l = Adds (Each (IsImpliedBy l.table) (take l.pair-index l.pairs)) (Contains l.initial.asks.items) (Contains l.asks.items)
