use Rattle.std.proofs.Common.{rules, ℕ, List, Option, IfOk, option_and_then, slice_get, subst}
use Rattle.json_form.specs.Nodes.{part_of}
use Rattle.groupings.specs.least_fault.Least.{IsLeast}
use Rattle.data_documents.specs.shape_faults.Nodes.{IsArrayFault}
use Rattle.data_documents.specs.shape_faults.Places.{place_cmp}
use Rattle.data_documents.specs.table_documents.Shapes.{IsRowFaultBy}
use Rattle.data_documents.proofs.table_documents.shape.first_in_rows.Goals as goal

pub returns : goal.returns
returns c =
    let cols = c.args.cols.now in
    let P : (List ℕ → Option ℕ) → Type 0 = λ known. IfOk c.first_in_array.result
    (IsLeast place_cmp (IsArrayFault (IsRowFaultBy (λ name. option_and_then (slice_get cols) (known name)) cols) (part_of c.args.node))) in
    subst P (c.in_ok-places.ensures (λ col. col.name) (λ col name lent. search rules)) c.first_in_array.ensures
