use Rattle.std.proofs.Common.{◌≡◌, All, false, take}
use Rattle.region_states.specs.conflicts.SameFacts.{is_lost}
use Rattle.region_states.specs.region_basis.BasisOf.{basis_of}
use Rattle.containment.specs.same_conflicts.Written.{region_in}
use Rattle.containment.proofs.same_conflicts.lost.first_lost.Given as goal

-- the regions so far have no such property
abbrev pub invariant-loop-one : goal.invariant-loop-one
invariant-loop-one l = All (λ one. (p : _) → is_lost (basis_of l.parts) (region_in one) p ≡ false) (take l.one-index l.written)
