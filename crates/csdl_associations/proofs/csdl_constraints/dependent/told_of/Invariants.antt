use Rattle.std.proofs.Common.{take}
use Rattle.csdl_names.specs.csdl_lists.References.{names_in}
use Rattle.csdl_associations.specs.csdl_constraints.Told.{AreToldOf}
use Rattle.csdl_associations.proofs.csdl_constraints.dependent.told_of.Given as goal

-- beside those that were passed stands what is told of them
abbrev pub invariant-loop-association : goal.invariant-loop-association
invariant-loop-association l =
    let model = l.sides.lookups.now.model.now in
    AreToldOf (names_in model) model (take l.association-index l.associations) l.told.items
