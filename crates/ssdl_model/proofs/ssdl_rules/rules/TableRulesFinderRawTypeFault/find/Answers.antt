use Rattle.std.proofs.Common.{◌⊎◌, codes}
use Rattle.layouts.specs.declared.fault.Fault.{Fault}
use Rattle.layouts.specs.rule_places.Places.{InList}
use Rattle.layouts.proofs.rule_places.Rules.{least_joined}
use Rattle.ssdl_model.specs.ssdl_rules.TableRules.{IsColumnFault, IsKeyColumnFault, IsTableKeyFault}
use Rattle.ssdl_model.proofs.ssdl_rules.rules.TableRulesFinderRawTypeFault.find.Goals as goal

pub returns : goal.returns
returns c =
    let type = c.args.item.now in
    let Columns : Fault → Type 0 = InList (codes "Property") IsColumnFault type.props in
    let Key : Fault → Type 0 = IsTableKeyFault type in
    let KeyColumns : Fault → Type 0 = IsKeyColumnFault type in
    least_joined Columns (λ fault. Key fault ⊎ KeyColumns fault) c.in_ok-column.column c.earlier.result c.earlier-2.result c.earlier-2.ensures c.in_ok-column.ensures
    (least_joined Key KeyColumns c.in_ok-key.key c.in_ok-key_column.key_column c.earlier.result c.earlier.ensures c.in_ok-key.ensures c.in_ok-key_column.ensures)
