use Rattle.regions.specs.Settled.{settle}
use Rattle.region_states.specs.conflicts.SameFacts.{are_compatible}
use Rattle.containment.proofs.same_conflicts.Walked.{MatchBelow}
use Rattle.containment.proofs.same_conflicts.matching.cells_match.Given as goal

-- the cells so far can hold the same
abbrev pub invariant-loop-place : goal.invariant-loop-place
invariant-loop-place l = MatchBelow (λ cell other. are_compatible (settle l.model l.atoms cell) (settle l.model l.others other)) l.place l.cells l.faced
