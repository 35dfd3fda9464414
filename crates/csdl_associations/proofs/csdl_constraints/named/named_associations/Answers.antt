use Rattle.std.proofs.Common.{◌≡◌, Some}
use Rattle.csdl_names.specs.csdl_lists.References.{names_in}
use Rattle.csdl_associations.proofs.csdl_constraints.InModel.{marks_in_model}
use Rattle.csdl_associations.proofs.csdl_constraints.named.named_associations.Goals as goal

pub returns : goal.returns
returns c =
    let model = c.args.lookups.now.model.now in
    marks_in_model model (λ set i. (names_in model).association_named set.association ≡ Some i) (λ set i is. is)
    c.as_slice.result.now c.len.result c.in_ok-named.named.items c.as_slice.ensures.items c.len.ensures.count c.in_ok-named.ensures
