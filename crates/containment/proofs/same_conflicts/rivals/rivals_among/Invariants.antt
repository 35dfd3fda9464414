use Rattle.std.proofs.Common.{AllPairs, take}
use Rattle.region_states.specs.region_basis.BasisOf.{basis_of}
use Rattle.containment.specs.same_conflicts.Rivals.{DifferAt}
use Rattle.containment.proofs.same_conflicts.rivals.rivals_among.Given as goal

-- the rows at the places so far can't hold the same
abbrev pub invariant-loop-later : goal.invariant-loop-later
invariant-loop-later l = AllPairs (DifferAt (basis_of l.parts) l.written) (take l.later l.alike)
