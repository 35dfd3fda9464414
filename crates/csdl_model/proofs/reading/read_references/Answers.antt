use Rattle.std.proofs.Common.{Some, None, subst}
use Rattle.layouts.specs.Faults.{fault_cmp}
use Rattle.groupings.specs.least_fault.Least.{IsLeast}
use Rattle.csdl_names.specs.Unresolved.{IsUnresolved}
use Rattle.csdl_meaning.specs.ModelMeaning.{meaning}
use Rattle.csdl_model.specs.ModelFaults.{IsFaultAfterReferences}
use Rattle.layouts.proofs.told_rules.Readings.{goes_on, stops_there}
use Rattle.csdl_model.proofs.RuleNumbers.{after_unresolved}
use Rattle.csdl_model.proofs.reading.read_references.Goals as goal

pub returns-in-Some : goal.returns-in-Some
returns-in-Some c =
    let model = c.args.lookups.now.model.now in
    let found : IsLeast fault_cmp (IsUnresolved model) (Some c.in-Some.fault) = subst (IsLeast fault_cmp (IsUnresolved model)) c.in-Some.is c.in_ok-fault.ensures in
    stops_there (IsUnresolved model) (IsFaultAfterReferences model) (meaning model) c.in-Some.fault found (λ other. after_unresolved model other c.in-Some.fault found.0)

pub returns-in-None : goal.returns-in-None
returns-in-None c =
    let model = c.args.lookups.now.model.now in
    let none : IsLeast fault_cmp (IsUnresolved model) None = subst (IsLeast fault_cmp (IsUnresolved model)) c.in-None.is c.in_ok-fault.ensures in
    goes_on (IsUnresolved model) (IsFaultAfterReferences model) (meaning model) c.read_types.result none c.read_types.ensures
