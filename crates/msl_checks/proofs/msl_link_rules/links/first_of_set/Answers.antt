use Rattle.std.proofs.Common.{ap, sym, ◌∙◌}
use Rattle.layouts.specs.declared.fault.Fault.{Fault}
use Rattle.layouts.proofs.rule_places.Rules.{least_where_some}
use Rattle.round_trip.specs.Words.{Assoc}
use Rattle.schema_names.specs.SchemaNames.{association_set_named}
use Rattle.msl_rules.specs.LinkRules.{BreaksLinkRules}
use Rattle.msl_rules.proofs.Named.{least_at}
use Rattle.msl_checks.specs.msl_written.Within.{schema_in}
use Rattle.msl_checks.specs.msl_link_rules.LinkParts.{BreaksRulesAt}
use Rattle.msl_checks.proofs.msl_link_rules.links.first_of_set.Goals as goal

pub returns : goal.returns
returns c =
    let schema = schema_in c.args.between.now in
    let link = c.args.link.now in
    let set = c.in-Some.set in
    let named = c.association_set_named.ensures ∙ ap (association_set_named schema.model) c.as_str.ensures.text in
    let Wrong : Assoc → Fault → Type 0 = BreaksLinkRules schema link set in
    least_where_some (BreaksRulesAt schema link) (association_set_named schema.model link.name) set c.in_ok-found.found (sym named ∙ c.in-Some.is)
    (least_at Wrong schema.model.assocs set c.in-Some-get.assoc.now c.in_ok-found.found (sym c.in-Some-get.ensures.item) c.in_ok-found.ensures)
