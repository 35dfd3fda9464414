use Rattle.std.proofs.Common.{◌-◌, length}
use Rattle.region_states.specs.region_basis.BasisOf.{basis_of}
use Rattle.forced_entities.specs.Listed.{forced_by}
use Rattle.forced_entities.specs.Walked.{IsWalked}
use Rattle.forced_entities.proofs.walk.forced.Given as goal

-- what is found by the walk so far
abbrev pub invariant-loop-at : goal.invariant-loop-at
invariant-loop-at l = IsWalked (basis_of l.parts) l.of l.not_null l.found l.at

-- no more are found than are forced
abbrev pub decreases-loop-at : goal.decreases-loop-at
decreases-loop-at l = length (forced_by (basis_of l.parts) l.of l.not_null) - l.at
