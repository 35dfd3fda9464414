use Rattle.std.proofs.Common.{take}
use Rattle.row_plans.specs.Waits.{AreEnds}
use Rattle.row_plans.proofs.waiting.ends.ends_by_place.Given as goal

-- the ends of the arrows so far
abbrev pub invariant-loop-arrow : goal.invariant-loop-arrow
invariant-loop-arrow l = AreEnds l.count (take l.arrow-index l.arrows) l.ends.items
