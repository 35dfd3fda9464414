use Rattle.std.proofs.Common.{◌≡◌, ◌++◌, take}
use Rattle.std.specs.List.{flat_map}
use Rattle.row_plans.specs.Waits.{arrows_between}
use Rattle.row_plans.proofs.waiting.arrows.add_target.Given as goal

-- the arrows between the target and the parts so far are added
abbrev pub invariant-loop-part : goal.invariant-loop-part
invariant-loop-part l = l.arrows.items ≡ l.initial.arrows.items ++ flat_map (arrows_between l.target) (take l.part-index l.parts)
