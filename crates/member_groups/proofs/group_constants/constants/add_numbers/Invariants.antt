use Rattle.std.proofs.Common.{take}
use Rattle.member_groups.specs.mapping_asks.Adding.{Each}
use Rattle.member_groups.specs.group_constants.Constants.{AddsIn, IsNumber}
use Rattle.member_groups.proofs.group_constants.constants.add_numbers.Given as goal

-- the numbers so far are added
abbrev pub invariant-loop-number : goal.invariant-loop-number
invariant-loop-number l = AddsIn (Each (IsNumber l.group) (take l.number-index l.numbers)) l.initial.sets.items l.sets.items
