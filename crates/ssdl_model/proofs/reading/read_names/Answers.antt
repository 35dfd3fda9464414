use Rattle.std.proofs.Common.{Some, None, subst}
use Rattle.layouts.specs.Faults.{fault_cmp}
use Rattle.groupings.specs.least_fault.Least.{IsLeast}
use Rattle.ssdl_model.specs.ssdl_making.StoreMeaning.{store_meaning}
use Rattle.ssdl_model.specs.StoreFaults.{IsFaultAfterNames, IsGivenTwice}
use Rattle.layouts.proofs.told_rules.Readings.{goes_on, stops_there}
use Rattle.ssdl_model.proofs.RuleNumbers.{after_given_twice}
use Rattle.ssdl_model.proofs.reading.read_names.Goals as goal

pub returns-in-Some : goal.returns-in-Some
returns-in-Some c =
    let store = c.args.lookups.now.model.now in
    let found : IsLeast fault_cmp (IsGivenTwice store) (Some c.in-Some.fault) = subst (IsLeast fault_cmp (IsGivenTwice store)) c.in-Some.is c.in_ok-fault.ensures in
    stops_there (IsGivenTwice store) (IsFaultAfterNames store) (store_meaning store) c.in-Some.fault found (λ other. after_given_twice store c.in-Some.fault other found.0)

pub returns : goal.returns
returns c =
    let store = c.args.lookups.now.model.now in
    let none : IsLeast fault_cmp (IsGivenTwice store) None = subst (IsLeast fault_cmp (IsGivenTwice store)) c.in-None.is c.in_ok-fault.ensures in
    goes_on (IsGivenTwice store) (IsFaultAfterNames store) (store_meaning store) c.read_references.result none c.read_references.ensures
