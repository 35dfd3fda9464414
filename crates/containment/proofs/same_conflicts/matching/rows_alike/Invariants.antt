use Rattle.region_states.specs.conflicts.SameFacts.{rows_match}
use Rattle.region_states.specs.region_basis.BasisOf.{basis_of}
use Rattle.containment.proofs.same_conflicts.Walked.{MatchBelow}
use Rattle.containment.proofs.same_conflicts.matching.rows_alike.Given as goal

-- the rows so far can hold the same
abbrev pub invariant-loop-place : goal.invariant-loop-place
invariant-loop-place l = MatchBelow (rows_match (basis_of l.parts) l.one.region.now.atoms l.two.region.now.atoms) l.place l.rows l.others
