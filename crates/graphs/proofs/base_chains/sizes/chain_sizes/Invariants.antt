use Rattle.std.proofs.Common.{length}
use Rattle.graphs.specs.base_chains.Chains.{base_at}
use Rattle.graphs.proofs.base_chains.orders.Sums.{IsSizing}
use Rattle.graphs.proofs.base_chains.sizes.chain_sizes.Given as goal

-- the sizes of the places that were passed
abbrev pub invariant-loop-place : goal.invariant-loop-place
invariant-loop-place l = IsSizing (base_at l.bases) (length l.bases) l.own l.order l.place-index l.sizes.items
