use Rattle.std.proofs.Common.{◌∷◌, [], IsSome, MatchOption, codes, sym, ◌∙◌}
use Rattle.json_form.specs.declared.pointer.Step.TheVariants.{Member}
use Rattle.layouts.specs.declared.fault.Fault.{Fault}
use Rattle.layouts.specs.declared.rule.Rule.TheVariants.{ConstraintMapping}
use Rattle.layouts.specs.rule_places.Places.{IsAt}
use Rattle.layouts.proofs.rule_places.Rules.{least_joined, least_where}
use Rattle.schema_names.specs.SchemaNames.{table_named}
use Rattle.msl_rules.specs.LinkRules.{BreaksTableRules}
use Rattle.msl_checks.specs.msl_written.Within.{schema_in}
use Rattle.msl_checks.proofs.msl_link_rules.of_link.OfLink.first_fault.Goals as goal

pub returns : goal.returns
returns c =
    let self = c.args.self.now in
    let schema = schema_in self.between in
    let link = self.link.now in
    let InTable : Fault → Type 0 = λ fault. MatchOption (table_named schema.store link.table) ⊥ (λ t. BreaksTableRules schema link self.set self.assoc.now t fault) in
    let Constraint : Fault → Type 0 = λ fault. IsSome self.assoc.now.constraint × IsAt ConstraintMapping (Member (codes "Name") ∷ []) fault in
    least_joined InTable Constraint c.in_ok-in_table.in_table c.in_ok-constraint.constraint c.earlier.result c.earlier.ensures c.in_ok-in_table.ensures
    (least_where (IsAt ConstraintMapping (Member (codes "Name") ∷ [])) c.in_ok-constraint.constraint
    (λ yes. sym c.is_some-is_constrained.ensures ∙ yes, λ some. c.is_some-is_constrained.ensures ∙ some) c.in_ok-constraint.ensures)
