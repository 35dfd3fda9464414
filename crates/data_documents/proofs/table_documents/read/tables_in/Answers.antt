use Rattle.std.proofs.Common.{map, ap, sym, subst, ◌∙◌}
use Rattle.std.proofs.lemmas.List.{take_all}
use Rattle.json_form.specs.Nodes.{part_of}
use Rattle.edm_types.specs.Rows.{AreTables}
use Rattle.data_documents.specs.table_documents.Tables.{rows_of_table}
use Rattle.data_documents.proofs.table_documents.Fits.{tables_fit}
use Rattle.data_documents.proofs.table_documents.read.tables_in.Goals as goal

pub returns-clause-tables : goal.returns-clause-tables
returns-clause-tables c =
    c.of_lists.ensures
    ∙ c.loop-table.invariant
    ∙ ap (map (rows_of_table (part_of c.args.node)))
    (take_all c.loop-table.table-index c.as_slice-table-items.result.now c.loop-table-test.false ∙ c.as_slice-table-items.ensures.items)

pub returns-clause-fit : goal.returns-clause-fit
returns-clause-fit c = subst (AreTables c.args.store.now) (sym (returns-clause-tables c)) (tables_fit c.args.store.now (part_of c.args.node))
