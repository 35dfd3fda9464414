use Rattle.std.proofs.Common.{◌≡◌, All, false, take}
use Rattle.emc_base.specs.Lists.{At}
use Rattle.region_states.specs.region_basis.BasisOf.{basis_of}
use Rattle.containment.specs.same_conflicts.Matching.{rows_alike}
use Rattle.containment.proofs.same_conflicts.rivals.rival_of.Given as goal

-- the rows at the places so far can't hold the same as the other's
abbrev pub invariant-loop-place : goal.invariant-loop-place
invariant-loop-place l = All (λ p. (one : _) → At l.written p one → rows_alike (basis_of l.parts) one l.two ≡ false) (take l.place-index l.places)
