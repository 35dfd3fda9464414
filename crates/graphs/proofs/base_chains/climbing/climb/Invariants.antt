use Rattle.std.proofs.Common.{count_by, not}
use Rattle.graphs.specs.base_chains.Chains.{IsPlace, base_at}
use Rattle.graphs.specs.base_chains.Climbs.{IsWayUp}
use Rattle.graphs.proofs.base_chains.climbing.climb.Given as goal

-- the way so far, whose exit is the next place
abbrev pub invariant-loop-next : goal.invariant-loop-next
invariant-loop-next l =
    IsWayUp (base_at l.bases) l.from l.initial.seen.items l.seen.items l.path.items l.next × IsPlace l.bases l.next

-- how many places are not seen
abbrev pub decreases-loop-next : goal.decreases-loop-next
decreases-loop-next l = count_by (λ b. not b) l.seen.items
