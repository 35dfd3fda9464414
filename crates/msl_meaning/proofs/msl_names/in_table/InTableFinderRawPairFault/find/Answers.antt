use Rattle.std.proofs.Common.{codes, ap, ◌∙◌}
use Rattle.schema_names.specs.SchemaNames.{column_named}
use Rattle.msl_rules.proofs.Named.{names_nothing}
use Rattle.msl_meaning.proofs.msl_names.in_table.InTableFinderRawPairFault.find.Goals as goal

pub returns : goal.returns
returns c =
    let self = c.args.self.now in
    let column = column_named self.names.now.store.now self.table in
    names_nothing c.column_near-col.result (column c.args.item.now.col) (codes "ColumnName") c.in_ok-found.found (c.column_near-col.ensures ∙ ap column c.as_str.ensures.text)
    c.in_ok-found.ensures
