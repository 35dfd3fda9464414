use Rattle.std.proofs.Common.{length}
use Rattle.graphs.specs.base_chains.Chains.{base_at, root}
use Rattle.graphs.proofs.base_chains.orders.Filled.{Is, IsFilled}
use Rattle.graphs.proofs.base_chains.roots.chain_roots.Given as goal

-- the roots of the places that were passed
abbrev pub invariant-loop-place : goal.invariant-loop-place
invariant-loop-place l = IsFilled (Is (root (base_at l.bases) (length l.bases))) (length l.bases) l.order l.place-index l.roots.items
