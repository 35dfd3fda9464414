use Rattle.std.proofs.Common.{take}
use Rattle.row_plans.specs.Waits.{AreArrowsBy}
use Rattle.row_plans.proofs.waiting.arrows_of.Given as goal

-- the arrows by the keys so far
abbrev pub invariant-loop-key : goal.invariant-loop-key
invariant-loop-key l = AreArrowsBy (take l.key-index l.key-items) l.alterations l.arrows.items
