use Rattle.std.proofs.Common.{AllPairs}
use Rattle.region_states.specs.region_basis.BasisOf.{basis_of}
use Rattle.containment.specs.same_conflicts.Rivals.{DifferAt}
use Rattle.containment.proofs.same_conflicts.Left.{AreLeft}
use Rattle.containment.proofs.same_conflicts.rivals.first_rivals.Given as goal

-- the rows of the regions in the lists so far differ
abbrev pub invariant-loop-alike : goal.invariant-loop-alike
invariant-loop-alike l = AreLeft (λ list. AllPairs (DifferAt (basis_of l.parts) l.written) list.items) l.initial.alike-iterator l.alike-iterator
