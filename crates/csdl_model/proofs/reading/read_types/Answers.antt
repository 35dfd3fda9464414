use Rattle.std.proofs.Common.{Some, None, subst}
use Rattle.layouts.specs.Faults.{fault_cmp}
use Rattle.groupings.specs.least_fault.Least.{IsLeast}
use Rattle.csdl_types.specs.TypeRules.{BreaksTypeRules}
use Rattle.csdl_meaning.specs.ModelMeaning.{meaning}
use Rattle.csdl_meaning.proofs.kept.KeptTypes.{none_above_itself}
use Rattle.csdl_model.specs.ModelFaults.{BreaksAssociationRules}
use Rattle.layouts.proofs.told_rules.Readings.{goes_on, stops_there}
use Rattle.csdl_model.proofs.RuleNumbers.{after_types}
use Rattle.csdl_model.proofs.reading.read_types.Goals as goal

pub read_associations-requires : goal.read_associations-requires
read_associations-requires c =
    let model = c.args.lookups.now.model.now in
    none_above_itself model (subst (IsLeast fault_cmp (BreaksTypeRules model)) c.in-None.is c.in_ok-fault.ensures)

pub returns-in-Some : goal.returns-in-Some
returns-in-Some c =
    let model = c.args.lookups.now.model.now in
    let found : IsLeast fault_cmp (BreaksTypeRules model) (Some c.in-Some.fault) = subst (IsLeast fault_cmp (BreaksTypeRules model)) c.in-Some.is c.in_ok-fault.ensures in
    stops_there (BreaksTypeRules model) (BreaksAssociationRules model) (meaning model) c.in-Some.fault found (λ other. after_types model c.in-Some.fault other found.0)

pub returns-in-None : goal.returns-in-None
returns-in-None c =
    let model = c.args.lookups.now.model.now in
    let none : IsLeast fault_cmp (BreaksTypeRules model) None = subst (IsLeast fault_cmp (BreaksTypeRules model)) c.in-None.is c.in_ok-fault.ensures in
    goes_on (BreaksTypeRules model) (BreaksAssociationRules model) (meaning model) c.read_associations.result none c.read_associations.ensures
