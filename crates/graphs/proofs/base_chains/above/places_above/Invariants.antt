use Rattle.std.proofs.Common.{length}
use Rattle.graphs.specs.base_chains.Chains.{base_at}
use Rattle.graphs.proofs.base_chains.Ascents.{IsAscent, left_count}
use Rattle.graphs.proofs.base_chains.above.places_above.Given as goal

-- the places that were passed stand above, and the next one is the one to go on from
abbrev pub invariant-loop-next : goal.invariant-loop-next
invariant-loop-next l = IsAscent (base_at l.bases) l.place l.above.items l.next

-- how many places are left
abbrev pub decreases-loop-next : goal.decreases-loop-next
decreases-loop-next l = left_count (base_at l.bases) (length l.bases) l.next
