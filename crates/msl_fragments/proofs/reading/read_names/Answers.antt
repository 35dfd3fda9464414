use Rattle.std.proofs.Common.{Some, None, subst}
use Rattle.layouts.specs.Faults.{fault_cmp}
use Rattle.groupings.specs.least_fault.Least.{IsLeast}
use Rattle.msl_rules.specs.NameRules.{IsMappedTwice}
use Rattle.msl_fragments.specs.Steps.{IsFaultAfterTwice}
use Rattle.msl_rules.specs.MappingMeaning.{mapping_in}
use Rattle.layouts.proofs.told_rules.Readings.{goes_on, stops_there}
use Rattle.msl_fragments.proofs.Steps.{after_twice}
use Rattle.msl_fragments.proofs.reading.read_names.Goals as goal

pub returns-in-Some : goal.returns-in-Some
returns-in-Some c =
    let model = c.args.names.now.model.now in
    let store = c.args.names.now.store.now in
    let raw = c.args.raw.now in
    let found : IsLeast fault_cmp (IsMappedTwice raw) (Some c.in-Some.fault) = subst (IsLeast fault_cmp (IsMappedTwice raw)) c.in-Some.is c.in_ok-fault.ensures in
    stops_there (IsMappedTwice raw) (IsFaultAfterTwice model store raw) (mapping_in model store raw) c.in-Some.fault found (λ other. after_twice model store raw other c.in-Some.fault found.0)

pub returns-in-None : goal.returns-in-None
returns-in-None c =
    let model = c.args.names.now.model.now in
    let store = c.args.names.now.store.now in
    let raw = c.args.raw.now in
    let none : IsLeast fault_cmp (IsMappedTwice raw) None = subst (IsLeast fault_cmp (IsMappedTwice raw)) c.in-None.is c.in_ok-fault.ensures in
    goes_on (IsMappedTwice raw) (IsFaultAfterTwice model store raw) (mapping_in model store raw) c.read_references.result none c.read_references.ensures
