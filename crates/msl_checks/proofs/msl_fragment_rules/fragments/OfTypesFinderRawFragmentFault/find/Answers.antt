use Rattle.std.proofs.Common.{ℕ, List, Option, ap, sym, subst, ◌∙◌}
use Rattle.groupings.specs.least_fault.Least.{IsLeast}
use Rattle.layouts.specs.declared.fault.Fault.{Fault}
use Rattle.layouts.specs.Faults.{fault_cmp}
use Rattle.layouts.proofs.rule_places.Rules.{least_where_some}
use Rattle.round_trip.specs.Words.{PropId}
use Rattle.schema_names.specs.SchemaNames.{table_named}
use Rattle.msl_rules.specs.FragmentRules.{BreaksFragmentRules}
use Rattle.msl_checks.specs.msl_written.Within.{schema_in}
use Rattle.msl_checks.specs.msl_fragment_rules.FragmentFaults.{IsBroken}
use Rattle.msl_checks.proofs.msl_fragment_rules.fragments.OfTypesFinderRawFragmentFault.find.Goals as goal

pub returns : goal.returns
returns c =
    let self = c.args.self.now in
    let schema = schema_in self.between.now in
    let fragment = c.args.item.now in
    let Broken : ℕ → Fault → Type 0 = BreaksFragmentRules schema self.types.now fragment self.set in
    let Found : (List ℕ → Option PropId) → Type 0 = λ named. IsLeast fault_cmp (IsBroken schema named self.set c.in-Some.table fragment) c.in_ok-found.found in
    least_where_some Broken (table_named schema.store fragment.table) c.in-Some.table c.in_ok-found.found
    (ap (table_named schema.store) (sym c.as_str.ensures.text) ∙ sym c.in-Some.ensures)
    (subst Found self.picked c.in_ok-found.ensures)
