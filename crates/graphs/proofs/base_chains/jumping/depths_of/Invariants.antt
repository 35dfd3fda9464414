use Rattle.std.proofs.Common.{length}
use Rattle.graphs.specs.base_chains.Chains.{base_at}
use Rattle.graphs.specs.base_chains.Jumps.{depth}
use Rattle.graphs.proofs.base_chains.orders.Filled.{Is, IsFilled}
use Rattle.graphs.proofs.base_chains.jumping.depths_of.Given as goal

-- the depths of the places that were passed
abbrev pub invariant-loop-place : goal.invariant-loop-place
invariant-loop-place l = IsFilled (Is (depth (base_at l.bases) (length l.bases))) (length l.bases) l.order l.place-index l.depths.items
