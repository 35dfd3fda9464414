use Rattle.std.proofs.Common.{take}
use Rattle.csdl_associations.specs.csdl_association_sets.Told.{AreArrowsOf}
use Rattle.csdl_associations.proofs.csdl_association_sets.set_arrows.arrows_of.Given as goal

-- the arrows of the association sets that were passed
abbrev pub invariant-loop-set : goal.invariant-loop-set
invariant-loop-set l = AreArrowsOf l.constraints (take l.set-index l.set-items) l.arrows.items
