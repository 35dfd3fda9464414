use Rattle.std.proofs.Common.{◌≡◌, ◌++◌, take}
use Rattle.row_plans.specs.Waits.{arrows_in_groups}
use Rattle.row_plans.proofs.waiting.arrows.add_groups.Given as goal

-- the arrows in the groups so far are added
abbrev pub invariant-loop-group : goal.invariant-loop-group
invariant-loop-group l = l.arrows.items ≡ l.initial.arrows.items ++ arrows_in_groups (take l.group-index l.groups)
