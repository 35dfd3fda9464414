use Rattle.std.proofs.Common.{length}
use Rattle.graphs.specs.base_chains.Chains.{base_at}
use Rattle.graphs.proofs.base_chains.orders.Passing.{IsPassed}
use Rattle.graphs.proofs.base_chains.marks.marked_below.Given as goal

-- the marks of the places that were passed were carried up
abbrev pub invariant-loop-place : goal.invariant-loop-place
invariant-loop-place l = IsPassed (base_at l.bases) (length l.bases) l.order l.marks l.place-iterator.iter.rest.now l.told.items
