use Rattle.std.proofs.Common.{ℕ, codes, ap, sym, ◌∙◌}
use Rattle.layouts.specs.declared.fault.Fault.{Fault}
use Rattle.layouts.specs.rule_places.Places.{InList}
use Rattle.layouts.proofs.rule_places.LeastFound.{at_none, none_of}
use Rattle.layouts.proofs.rule_places.Rules.{least_where_some}
use Rattle.schema_names.specs.SchemaNames.{set_named}
use Rattle.msl_rules.specs.FragmentRules.{IsTypesFault}
use Rattle.msl_checks.specs.msl_written.Within.{schema_in}
use Rattle.msl_checks.proofs.msl_fragment_rules.fragments.InMappingFinderRawSetMappingFault.find.Goals as goal

pub returns-in_default : goal.returns-in_default
returns-in_default c =
    let schema = schema_in c.args.self.now.between.now in
    let set = c.args.item.now in
    let Types : ℕ → Fault → Type 0 = λ s. InList (codes "EntityTypeMapping") (IsTypesFault schema s) set.types in
    at_none (set_named schema.model set.name) Types
    (ap (set_named schema.model) (sym c.as_str.ensures.text) ∙ sym c.set_named.ensures ∙ none_of c.set_named.result c.in_default.not-Some)

pub returns : goal.returns
returns c =
    let schema = schema_in c.args.self.now.between.now in
    let set = c.args.item.now in
    let Types : ℕ → Fault → Type 0 = λ s. InList (codes "EntityTypeMapping") (IsTypesFault schema s) set.types in
    least_where_some Types (set_named schema.model set.name) c.in-Some.set c.in_ok-found.found
    (ap (set_named schema.model) (sym c.as_str.ensures.text) ∙ sym c.in-Some.ensures) c.in_ok-found.ensures
