use Rattle.std.proofs.Common.{take, Contains}
use Rattle.member_groups.specs.mapping_asks.Adding.{Adds, Each}
use Rattle.member_groups.specs.mapping_asks.Asks.{IsAskBy}
use Rattle.member_groups.proofs.mapping_asks.asks.add_conditions.Given as goal

-- what the conditions so far ask is added
abbrev pub invariant-loop-cond : goal.invariant-loop-cond
invariant-loop-cond l = Adds (Each (IsAskBy l.table) (take l.cond-index l.conds)) (Contains l.initial.asks.items) (Contains l.asks.items)
