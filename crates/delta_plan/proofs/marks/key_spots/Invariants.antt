use Rattle.std.proofs.Common.{take}
use Rattle.delta_plan.specs.Marks.{HoldsKeys}
use Rattle.delta_plan.proofs.marks.key_spots.Given as goal

-- those so far are held
abbrev pub invariant-loop-set : goal.invariant-loop-set
invariant-loop-set l = HoldsKeys (take l.set-index l.touched) l.spots
