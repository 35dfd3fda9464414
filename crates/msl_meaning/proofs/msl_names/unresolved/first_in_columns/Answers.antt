use Rattle.std.proofs.Common.{ℕ, codes}
use Rattle.layouts.specs.declared.fault.Fault.{Fault}
use Rattle.layouts.specs.rule_places.Places.{InList}
use Rattle.layouts.proofs.rule_places.Rules.{least_joined, least_where_some}
use Rattle.msl_rules.specs.NameRules.{LacksCondColumn, LacksEndColumns}
use Rattle.msl_meaning.specs.msl_names.LinkNames.{LacksLinkColumns}
use Rattle.msl_meaning.proofs.msl_names.unresolved.first_in_columns.Goals as goal

pub returns : goal.returns
returns c =
    let names = c.args.names.now in
    let link = c.args.link.now in
    let Ends : ℕ → Fault → Type 0 = λ t. InList (codes "EndProperty") (LacksEndColumns names.model.now names.store.now t) link.ends in
    let Conds : ℕ → Fault → Type 0 = λ t. InList (codes "Condition") (LacksCondColumn names.store.now t) link.conds in
    least_where_some (LacksLinkColumns names.model.now names.store.now link) c.args.table c.in-Some.table c.earlier.result c.in-Some.is
    (least_joined (Ends c.in-Some.table) (Conds c.in-Some.table) c.in_ok-ends.ends c.in_ok-conds.conds c.earlier.result c.earlier.ensures c.in_ok-ends.ensures c.in_ok-conds.ensures)
