use Rattle.std.proofs.Common.{take}
use Rattle.delta_plan.specs.Marks.{HoldsLinks}
use Rattle.delta_plan.proofs.marks.link_spots.Given as goal

-- those so far are held
abbrev pub invariant-loop-assoc : goal.invariant-loop-assoc
invariant-loop-assoc l = HoldsLinks (take l.assoc-index l.touched) l.spots
