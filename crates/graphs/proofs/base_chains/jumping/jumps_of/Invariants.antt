use Rattle.std.proofs.Common.{length}
use Rattle.graphs.specs.base_chains.Chains.{base_at}
use Rattle.graphs.specs.base_chains.Jumps.{IsJump}
use Rattle.graphs.proofs.base_chains.orders.Filled.{IsFilled}
use Rattle.graphs.proofs.base_chains.jumping.jumps_of.Given as goal

-- the places that were passed have a place to jump to
abbrev pub invariant-loop-place : goal.invariant-loop-place
invariant-loop-place l = IsFilled (IsJump (base_at l.bases)) (length l.bases) l.order l.place-index l.jumps.items
