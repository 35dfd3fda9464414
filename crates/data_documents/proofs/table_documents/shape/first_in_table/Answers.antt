use Rattle.std.proofs.Common.{List, IfOk, Option, Bor, sym, subst}
use Rattle.std.specs.Option.{option_copied}
use Rattle.edm_types.specs.declared.store.Column.{Column}
use Rattle.edm_types.specs.declared.store.Table.{Table}
use Rattle.json_form.specs.Nodes.{part_of}
use Rattle.groupings.specs.least_fault.Least.{IsLeast}
use Rattle.data_documents.specs.shape_faults.Places.{place_cmp}
use Rattle.data_documents.specs.table_documents.Shapes.{IsMemberFault, IsRowsFault}
use Rattle.data_documents.proofs.table_documents.shape.first_in_table.Goals as goal

pub returns-in-Some : goal.returns-in-Some
returns-in-Some c =
    let d = part_of c.args.node in
    let P : List Column → Type 0 = λ cols. IfOk c.first_in_rows.result (IsLeast place_cmp (IsRowsFault cols d)) in
    let Q : Option (Bor Table) → Type 0 = λ table. IfOk c.first_in_rows.result (IsLeast place_cmp (IsMemberFault (option_copied table) d)) in
    subst Q (sym c.in-Some.is) (subst P c.as_slice.ensures.items c.first_in_rows.ensures)
