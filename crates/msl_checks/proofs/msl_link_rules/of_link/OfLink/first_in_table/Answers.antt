use Rattle.std.proofs.Common.{◌⊎◌, [], codes}
use Rattle.layouts.specs.declared.fault.Fault.{Fault}
use Rattle.layouts.specs.declared.rule.Rule.TheVariants.{LinkPlace}
use Rattle.layouts.specs.rule_places.Places.{InList, IsAt}
use Rattle.layouts.proofs.rule_places.Rules.{least_searched, least_searches}
use Rattle.msl_rules.specs.LinkRules.{IsEndFault, IsLinkCondFault, IsUnplaced}
use Rattle.msl_checks.specs.msl_written.Within.{schema_in}
use Rattle.msl_checks.proofs.msl_link_rules.of_link.OfLink.first_in_table.Goals as goal

pub returns : goal.returns
returns c =
    let self = c.args.self.now in
    let schema = schema_in self.between in
    let link = self.link.now in
    let table = c.args.table in
    let Ends : Fault → Type 0 = InList (codes "EndProperty") (IsEndFault schema link.ends self.assoc.now table) link.ends in
    let Conds : Fault → Type 0 = InList (codes "Condition") (IsLinkCondFault schema table) link.conds in
    let Placing : Fault → Type 0 = λ fault. IsUnplaced schema link self.set self.assoc.now table × IsAt LinkPlace [] fault in
    least_searches Ends (λ fault. Conds fault ⊎ Placing fault) c.first_at-ends.result c.earlier_of.result c.earlier_of-2.result c.earlier_of-2.ensures c.first_at-ends.ensures
    (least_searches Conds Placing c.first_link_condition_fault-conds.result c.fault_here_if-placing.result c.earlier_of.result c.earlier_of.ensures
    c.first_link_condition_fault-conds.ensures
    (least_searched (IsAt LinkPlace []) c.fault_here_if-placing.result c.in_ok-is_unplaced.ensures c.fault_here_if-placing.ensures))
