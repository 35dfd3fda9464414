use Rattle.groupings.specs.least_fault.Least.{IsLeast}
use Rattle.layouts.specs.Faults.{fault_cmp}
use Rattle.layouts.proofs.rule_places.Rules.{least_searches, searched}
use Rattle.csdl_associations.specs.csdl_association_sets.Told.{BreaksArrows, BreaksEndRules, BreaksSets}
use Rattle.csdl_associations.proofs.csdl_association_sets.AllRules.{least_of_sets}
use Rattle.csdl_associations.proofs.csdl_association_sets.set_rules.first_in_association_sets.Goals as goal

pub returns : goal.returns
returns c =
    let model = c.args.sides.now.lookups.now.model.now in
    searched (IsLeast fault_cmp (BreaksSets model)) c.earlier_of.result
    (least_searches (BreaksEndRules model) (BreaksArrows model) c.first_end_fault-ends.result c.first_arrow_fault-arrows.result c.earlier_of.result c.earlier_of.ensures
    c.first_end_fault-ends.ensures c.first_arrow_fault-arrows.ensures)
    (least_of_sets model)
