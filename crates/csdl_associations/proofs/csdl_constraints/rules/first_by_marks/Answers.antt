use Rattle.csdl_associations.proofs.csdl_constraints.InModel.{least_by_marks}
use Rattle.csdl_associations.proofs.csdl_constraints.rules.first_by_marks.Goals as goal

pub returns : goal.returns
returns c = least_by_marks c.args.sides.now.lookups.now.model.now c.args.named.now c.args.others.now c.in_ok-found.found c.requires.named c.requires.others c.in_ok-found.ensures
