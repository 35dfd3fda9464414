use Rattle.std.proofs.Common.{codes}
use Rattle.json_form.specs.declared.pointer.Step.TheVariants.{Member}
use Rattle.layouts.specs.Inside.{Under}
use Rattle.layouts.proofs.rule_places.Rules.{least_searches}
use Rattle.csdl_associations.specs.csdl_association_sets.Told.{BreaksContainer, BreaksEnds}
use Rattle.csdl_associations.proofs.csdl_association_sets.set_rules.first_set_fault.Goals as goal

pub returns : goal.returns
returns c =
    let model = c.args.sides.now.lookups.now.model.now in
    let container = Member (codes "EntityContainer") in
    least_searches (Under container (BreaksContainer model)) (BreaksEnds model) c.first_in_container-container.result c.first_end_type_fault-ends.result c.earlier_of.result c.earlier_of.ensures
    c.first_in_container-container.ensures c.first_end_type_fault-ends.ensures
