use Rattle.graphs.specs.base_chains.Chains.{base_at}
use Rattle.graphs.proofs.base_chains.walks.Turns.{IsWalking}
use Rattle.std.proofs.Common.{length}
use Rattle.graphs.proofs.base_chains.walking.walk_bases.Given as goal

-- the walk over the places that were passed
abbrev pub invariant-loop-place : goal.invariant-loop-place
invariant-loop-place l = IsWalking (base_at l.bases) (length l.bases) l.place l.seen.items l.order.items l.first
