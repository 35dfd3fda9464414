use Rattle.std.proofs.Common.{take, Contains}
use Rattle.member_groups.specs.mapping_asks.Adding.{Adds, Each}
use Rattle.member_groups.specs.mapping_asks.Asks.{AsksByLink}
use Rattle.member_groups.proofs.mapping_asks.asks.add_links.Given as goal

-- what the fragments so far ask is added
abbrev pub invariant-loop-fragment : goal.invariant-loop-fragment
invariant-loop-fragment l = Adds (Each AsksByLink (take l.fragment-index l.fragments)) (Contains l.initial.asks.items) (Contains l.asks.items)
