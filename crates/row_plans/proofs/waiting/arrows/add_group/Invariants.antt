use Rattle.std.proofs.Common.{◌≡◌, ◌++◌, take}
use Rattle.std.specs.List.{flat_map}
use Rattle.row_plans.specs.Waits.{arrows_from}
use Rattle.row_plans.proofs.waiting.arrows.add_group.Given as goal

-- the arrows between the parts so far and all of the group are added
abbrev pub invariant-loop-part : goal.invariant-loop-part
invariant-loop-part l = l.arrows.items ≡ l.initial.arrows.items ++ flat_map (arrows_from l.parts) (take l.part-index l.parts)
