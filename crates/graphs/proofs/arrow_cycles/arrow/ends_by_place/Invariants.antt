use Rattle.std.proofs.Common.{take}
use Rattle.graphs.specs.arrow_cycles.Ends.{IsEnds}
use Rattle.graphs.proofs.arrow_cycles.arrow.ends_by_place.Given as goal

-- the ends of the arrows so far
abbrev pub invariant-loop-arrow : goal.invariant-loop-arrow
invariant-loop-arrow l = IsEnds l.count (take l.arrow-index l.arrows) l.ends.items
