use Rattle.std.proofs.Common.{◌≡◌}
use Rattle.edm_types.proofs.Marks.{types_before}
use Rattle.edm_types.proofs.forest.marked_types.Given as goal

-- the types at the marked places that were passed
abbrev pub invariant-loop-place : goal.invariant-loop-place
invariant-loop-place l = l.types ≡ types_before l.marks l.place
