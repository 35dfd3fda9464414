use Rattle.std.proofs.Common.{take}
use Rattle.member_groups.specs.mapping_asks.Adding.{Adds, Each, HasKey}
use Rattle.member_groups.specs.Causes.{AsksGroup}
use Rattle.member_groups.proofs.tested.add_asked.Given as goal

-- the groups of what is asked so far are added
abbrev pub invariant-loop-ask : goal.invariant-loop-ask
invariant-loop-ask l = Adds (Each (AsksGroup l.numbered) (take l.ask-index l.asks)) (HasKey l.initial.tested) (HasKey l.tested)
