use Rattle.std.proofs.Common.{IfOk, Option, subst}
use Rattle.edm_types.specs.declared.store.Table.{Table}
use Rattle.json_form.specs.Nodes.{part_of}
use Rattle.groupings.specs.least_fault.Least.{IsLeast}
use Rattle.data_documents.specs.shape_faults.Places.{place_cmp}
use Rattle.data_documents.specs.table_documents.Shapes.{IsMemberFault}
use Rattle.data_documents.proofs.table_documents.shape.TableSearchMemberSearch.find.Goals as goal

pub returns : goal.returns
returns c =
    let P : Option Table → Type 0 = λ table. IfOk c.first_in_table.result (IsLeast place_cmp (IsMemberFault table (part_of c.args.node))) in
    subst P c.table_at.ensures c.first_in_table.ensures
