use Rattle.std.proofs.Common.{take}
use Rattle.member_groups.specs.mapping_asks.Adding.{Each}
use Rattle.member_groups.specs.group_constants.Constants.{AddsIn, Compares}
use Rattle.member_groups.proofs.group_constants.constants.add_compared.Given as goal

-- the values of what is asked so far are added
abbrev pub invariant-loop-ask : goal.invariant-loop-ask
invariant-loop-ask l = AddsIn (Each (Compares l.numbered) (take l.ask-index l.asks)) l.initial.sets.items l.sets.items
