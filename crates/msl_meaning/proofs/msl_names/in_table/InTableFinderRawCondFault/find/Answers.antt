use Rattle.std.proofs.Common.{ℕ, List, codes, ap, ◌∙◌}
use Rattle.layouts.specs.declared.fault.Fault.{Fault}
use Rattle.layouts.proofs.rule_places.Rules.{least_where_some}
use Rattle.layouts.specs.rule_places.Names.{NamesNothing}
use Rattle.schema_names.specs.SchemaNames.{column_named}
use Rattle.msl_rules.proofs.Named.{names_nothing}
use Rattle.msl_meaning.proofs.msl_names.in_table.InTableFinderRawCondFault.find.Goals as goal

pub returns : goal.returns
returns c =
    let self = c.args.self.now in
    let column = column_named self.names.now.store.now self.table in
    let Lacks : List ℕ → Fault → Type 0 = λ name. NamesNothing (column name) (codes "ColumnName") in
    least_where_some Lacks c.args.item.now.col c.in-Some.name c.in_ok-found.found c.in-Some.is
    (names_nothing c.column_named-col.result (column c.in-Some.name) (codes "ColumnName") c.in_ok-found.found (c.column_named-col.ensures ∙ ap column c.as_str.ensures.text)
    c.in_ok-found.ensures)
