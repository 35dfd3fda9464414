use Rattle.std.proofs.Common.{◌<◌, ℕ, Option}
use Rattle.emc_base.specs.Lists.{At}
use Rattle.graphs.specs.arrow_cycles.Numbers.{IsInside}
use Rattle.graphs.specs.declared.arrow_cycles.arrow.Arrow.{Arrow}
use Rattle.graphs.proofs.arrow_cycles.cycle.first_inside.Given as goal

-- no arrow so far leads from a component to itself
abbrev pub invariant-loop-place : goal.invariant-loop-place
invariant-loop-place l = (i : ℕ) (arrow : Option Arrow) → i < l.place → At l.arrows i arrow → ¬ IsInside l.marks arrow
