use Rattle.csdl_names.specs.csdl_lists.References.{names_in}
use Rattle.csdl_associations.specs.csdl_constraints.Constraints.{MarksOther}
use Rattle.csdl_associations.proofs.csdl_constraints.InModel.{marks_in_model}
use Rattle.csdl_associations.proofs.csdl_constraints.rules.other_associations.Goals as goal

pub returns : goal.returns
returns c =
    let model = c.args.lookups.now.model.now in
    marks_in_model model (MarksOther (names_in model) model) (λ set i marks. marks.0)
    c.as_slice.result.now c.len.result c.in_ok-others.others.items c.as_slice.ensures.items c.len.ensures.count c.in_ok-others.ensures
