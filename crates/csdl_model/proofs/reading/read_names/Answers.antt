use Rattle.std.proofs.Common.{Some, None, subst}
use Rattle.layouts.specs.Faults.{fault_cmp}
use Rattle.groupings.specs.least_fault.Least.{IsLeast}
use Rattle.csdl_names.specs.Repeated.{IsRepeated}
use Rattle.csdl_meaning.specs.ModelMeaning.{meaning}
use Rattle.csdl_model.specs.ModelFaults.{IsFaultAfterNames}
use Rattle.layouts.proofs.told_rules.Readings.{goes_on, stops_there}
use Rattle.csdl_model.proofs.RuleNumbers.{after_repeated}
use Rattle.csdl_model.proofs.reading.read_names.Goals as goal

pub returns-in-Some : goal.returns-in-Some
returns-in-Some c =
    let model = c.args.lookups.now.model.now in
    let found : IsLeast fault_cmp (IsRepeated model) (Some c.in-Some.fault) = subst (IsLeast fault_cmp (IsRepeated model)) c.in-Some.is c.in_ok-fault.ensures in
    stops_there (IsRepeated model) (IsFaultAfterNames model) (meaning model) c.in-Some.fault found (λ other. after_repeated model other c.in-Some.fault found.0)

pub returns-in-None : goal.returns-in-None
returns-in-None c =
    let model = c.args.lookups.now.model.now in
    let none : IsLeast fault_cmp (IsRepeated model) None = subst (IsLeast fault_cmp (IsRepeated model)) c.in-None.is c.in_ok-fault.ensures in
    goes_on (IsRepeated model) (IsFaultAfterNames model) (meaning model) c.read_references.result none c.read_references.ensures
