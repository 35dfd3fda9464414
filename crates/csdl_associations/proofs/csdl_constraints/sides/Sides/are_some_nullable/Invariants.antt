use Rattle.csdl_names.specs.csdl_lists.References.{names_in}
use Rattle.csdl_associations.specs.csdl_constraints.Sides.{IsNullable}
use Rattle.csdl_associations.proofs.csdl_constraints.Marking.{NoneBefore}
use Rattle.csdl_associations.proofs.csdl_constraints.sides.Sides.are_some_nullable.Given as goal

-- none that was passed may be null
abbrev pub invariant-loop-name : goal.invariant-loop-name
invariant-loop-name l =
    let model = l.self.lookups.now.model.now in
    NoneBefore (IsNullable (names_in model) model l.ty) l.props l.name-index
