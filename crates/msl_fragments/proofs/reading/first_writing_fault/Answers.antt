use Rattle.std.proofs.Common.{◌≡◌, ◌⊎◌, ap, subst}
use Rattle.groupings.specs.least_fault.Least.{IsLeast}
use Rattle.layouts.specs.declared.fault.Fault.{Fault}
use Rattle.layouts.specs.Faults.{fault_cmp}
use Rattle.layouts.proofs.rule_places.Rules.{least_joined}
use Rattle.round_trip.specs.Words.{Mapping, Schema}
use Rattle.round_trip.specs.Between.{schema_of}
use Rattle.msl_rules.specs.FragmentRules.{IsInFragments}
use Rattle.msl_rules.specs.LinkRules.{IsInLinks}
use Rattle.msl_rules.specs.MappingMeaning.{schema_in}
use Rattle.msl_rules.specs.OwnerRules.{BreaksOwnerRules}
use Rattle.msl_fragments.proofs.reading.first_writing_fault.Goals as goal

pub returns : goal.returns
returns c =
    let model = c.args.between.now.names.now.model.now in
    let store = c.args.between.now.names.now.store.now in
    let raw = c.args.raw.now in
    let between : Mapping → Schema = λ mapping. schema_of model store mapping in
    let same : between c.args.between.now.mapping.now ≡ schema_in model store raw = ap between c.requires in
    let fragments : IsLeast fault_cmp (IsInFragments (schema_in model store raw) raw) c.in_ok-fragments.fragments =
    subst (λ (schema : Schema). IsLeast fault_cmp (IsInFragments schema raw) c.in_ok-fragments.fragments) same c.in_ok-fragments.ensures in
    let links : IsLeast fault_cmp (IsInLinks (schema_in model store raw) raw) c.in_ok-links.links =
    subst (λ (schema : Schema). IsLeast fault_cmp (IsInLinks schema raw) c.in_ok-links.links) same c.in_ok-links.ensures in
    least_joined (IsInFragments (schema_in model store raw) raw) (λ (fault : Fault). IsInLinks (schema_in model store raw) raw fault ⊎ BreaksOwnerRules model store raw fault)
    c.in_ok-fragments.fragments c.earlier.result c.earlier-2.result c.earlier-2.ensures fragments
    (least_joined (IsInLinks (schema_in model store raw) raw) (BreaksOwnerRules model store raw) c.in_ok-links.links c.in_ok-owners.owners c.earlier.result c.earlier.ensures links c.in_ok-owners.ensures)
