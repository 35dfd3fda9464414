use Rattle.std.proofs.Common.{Some, None, subst}
use Rattle.layouts.specs.Faults.{fault_cmp}
use Rattle.groupings.specs.least_fault.Least.{IsLeast}
use Rattle.ssdl_model.specs.ssdl_making.StoreMeaning.{store_meaning}
use Rattle.ssdl_model.specs.ssdl_rules.StoreRules.{BreaksStoreRules}
use Rattle.ssdl_model.specs.StoreFaults.{NamesNothing}
use Rattle.layouts.proofs.told_rules.Readings.{goes_on, stops_there}
use Rattle.ssdl_model.proofs.RuleNumbers.{after_nameless}
use Rattle.ssdl_model.proofs.reading.read_references.Goals as goal

pub returns-in-Some : goal.returns-in-Some
returns-in-Some c =
    let store = c.args.owners.now.lookups.now.model.now in
    let found : IsLeast fault_cmp (NamesNothing store) (Some c.in-Some.fault) = subst (IsLeast fault_cmp (NamesNothing store)) c.in-Some.is c.in_ok-fault.ensures in
    stops_there (NamesNothing store) (BreaksStoreRules store) (store_meaning store) c.in-Some.fault found (λ other. after_nameless store c.in-Some.fault other found.0)

pub returns-in-None : goal.returns-in-None
returns-in-None c =
    let store = c.args.owners.now.lookups.now.model.now in
    let none : IsLeast fault_cmp (NamesNothing store) None = subst (IsLeast fault_cmp (NamesNothing store)) c.in-None.is c.in_ok-fault.ensures in
    goes_on (NamesNothing store) (BreaksStoreRules store) (store_meaning store) c.read_tables.result none c.read_tables.ensures
