use Rattle.std.proofs.Common.{codes}
use Rattle.layouts.specs.declared.fault.Fault.{Fault}
use Rattle.layouts.specs.rule_places.Places.{InList}
use Rattle.layouts.proofs.rule_places.Rules.{least_joined}
use Rattle.msl_rules.specs.NameRules.{LacksColumn, LacksCondColumn}
use Rattle.msl_meaning.proofs.msl_names.in_table.InTable.first_in_fragment.Goals as goal

pub returns : goal.returns
returns c =
    let self = c.args.self.now in
    let fragment = c.args.fragment.now in
    let Pairs : Fault → Type 0 = InList (codes "ScalarProperty") (LacksColumn self.names.now.store.now self.table) fragment.pairs in
    let Conds : Fault → Type 0 = InList (codes "Condition") (LacksCondColumn self.names.now.store.now self.table) fragment.conds in
    least_joined Pairs Conds c.in_ok-pairs.pairs c.in_ok-conds.conds c.earlier.result c.earlier.ensures c.in_ok-pairs.ensures c.in_ok-conds.ensures
