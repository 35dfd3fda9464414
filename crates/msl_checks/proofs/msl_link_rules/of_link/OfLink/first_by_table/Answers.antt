use Rattle.std.proofs.Common.{ℕ, ap, sym, ◌∙◌}
use Rattle.layouts.specs.declared.fault.Fault.{Fault}
use Rattle.layouts.proofs.rule_places.Rules.{least_where_some}
use Rattle.schema_names.specs.SchemaNames.{table_named}
use Rattle.msl_rules.specs.LinkRules.{BreaksTableRules}
use Rattle.msl_checks.specs.msl_written.Within.{schema_in}
use Rattle.msl_checks.proofs.msl_link_rules.of_link.OfLink.first_by_table.Goals as goal

pub returns : goal.returns
returns c =
    let self = c.args.self.now in
    let schema = schema_in self.between in
    let link = self.link.now in
    let named = c.table_named.ensures ∙ ap (table_named schema.store) c.as_str.ensures.text in
    let Wrong : ℕ → Fault → Type 0 = BreaksTableRules schema link self.set self.assoc.now in
    least_where_some Wrong (table_named schema.store link.table) c.in-Some.table c.in_ok-found.found (sym named ∙ c.in-Some.is) c.in_ok-found.ensures
