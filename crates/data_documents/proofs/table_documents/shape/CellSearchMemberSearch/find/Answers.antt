use Rattle.std.proofs.Common.{IfOk, Option, subst}
use Rattle.edm_types.specs.declared.store.Column.{Column}
use Rattle.json_form.specs.Nodes.{part_of}
use Rattle.groupings.specs.least_fault.Least.{IsLeast}
use Rattle.data_documents.specs.shape_faults.Places.{place_cmp}
use Rattle.data_documents.specs.table_documents.Shapes.{IsCellFault}
use Rattle.data_documents.proofs.table_documents.shape.CellSearchMemberSearch.find.Goals as goal

pub returns : goal.returns
returns c =
    let P : Option Column → Type 0 = λ column. IfOk c.first_in_cell.result (IsLeast place_cmp (IsCellFault column (part_of c.args.node))) in
    subst P c.column_at.ensures c.first_in_cell.ensures
