use Rattle.member_groups.specs.mapping_asks.Adding.{EachBelow}
use Rattle.member_groups.specs.group_constants.Constants.{AddsIn, NumbersOfProp}
use Rattle.member_groups.proofs.group_constants.constants.add_enums.Given as goal

-- the numbers of the properties so far are added
abbrev pub invariant-loop-place : goal.invariant-loop-place
invariant-loop-place l = AddsIn (EachBelow (NumbersOfProp l.model l.numbered l.tested) l.place) l.initial.sets.items l.sets.items
