use Rattle.csdl_associations.specs.csdl_constraints.Marks.{AreMarksBelow}
use Rattle.csdl_associations.proofs.csdl_constraints.Marking.{MarkedBefore}
use Rattle.csdl_associations.proofs.csdl_constraints.marks.marks_of.Given as goal

-- the places that the sets mark which were passed
abbrev pub invariant-loop-set : goal.invariant-loop-set
invariant-loop-set g l = AreMarksBelow (MarkedBefore (g.M.Marking.marks l.marking) l.sets l.set-index) l.count l.marks.items
