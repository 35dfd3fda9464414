use Rattle.std.proofs.Common.{Contains}
use Rattle.member_groups.specs.mapping_asks.Adding.{Adds, EachBelow}
use Rattle.member_groups.specs.Causes.{IsSharer}
use Rattle.member_groups.proofs.tested.sharers_in.Given as goal

-- those of the properties so far are added
abbrev pub invariant-loop-place : goal.invariant-loop-place
invariant-loop-place l = Adds (EachBelow (IsSharer l.numbered) l.place) (Contains l.initial.sharers.items) (Contains l.sharers.items)
