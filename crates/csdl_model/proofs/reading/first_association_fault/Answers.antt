use Rattle.layouts.proofs.rule_places.Rules.{least_searches}
use Rattle.csdl_associations.specs.csdl_constraints.Constraints.{BreaksConstraintRules}
use Rattle.csdl_associations.specs.csdl_association_sets.SetRules.{BreaksSetRules}
use Rattle.csdl_model.proofs.reading.first_association_fault.Goals as goal

pub returns : goal.returns
returns c =
    let model = c.args.lookups.now.model.now in
    least_searches (BreaksConstraintRules model) (BreaksSetRules model) c.first_constraint_fault-constraint.result c.first_set_fault-set.result c.earlier_of.result
    c.earlier_of.ensures c.first_constraint_fault-constraint.ensures c.first_set_fault-set.ensures
