use Rattle.std.proofs.Common.{take}
use Rattle.region_states.specs.region_basis.BasisOf.{basis_of}
use Rattle.containment.specs.same_conflicts.Written.{AreWritten}
use Rattle.containment.proofs.same_conflicts.written.written_by.Given as goal

-- the regions so far have their rows
abbrev pub invariant-loop-region : goal.invariant-loop-region
invariant-loop-region l = AreWritten (basis_of l.parts) (take l.region-index l.regions) l.written.items
