use Rattle.std.proofs.Common.{rules, ℕ, List, Option, IfOk, option_and_then, slice_get, subst}
use Rattle.edm_types.specs.declared.store.Table.{Table}
use Rattle.json_form.specs.Nodes.{part_of}
use Rattle.groupings.specs.least_fault.Least.{IsLeast}
use Rattle.data_documents.specs.shape_faults.Nodes.{IsObjectFault}
use Rattle.data_documents.specs.shape_faults.Places.{place_cmp}
use Rattle.data_documents.specs.table_documents.Shapes.{IsMemberFault, table_named}
use Rattle.data_documents.proofs.table_documents.shape.first_fault.Goals as goal

pub returns : goal.returns
returns c =
    let tables = c.as_slice-tables.result.now in
    let d = part_of c.args.root in
    let P : (List ℕ → Option ℕ) → Type 0 = λ known. IfOk c.first_in_object.result
    (IsLeast place_cmp (IsObjectFault (λ name. IsMemberFault (option_and_then (slice_get tables) (known name))) d)) in
    let Q : List Table → Type 0 = λ all. IfOk c.first_in_object.result (IsLeast place_cmp (IsObjectFault (λ name. IsMemberFault (table_named all name)) d)) in
    subst Q c.as_slice-tables.ensures.items
    (subst P (c.in_ok-places.ensures (λ table. table.name) (λ table name lent. search rules)) c.first_in_object.ensures)
