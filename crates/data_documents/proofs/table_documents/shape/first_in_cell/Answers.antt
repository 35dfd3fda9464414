use Rattle.std.proofs.Common.{◌≡◌, [], Bool, Option, Bor, sym, ap, subst, ◌∙◌}
use Rattle.std.specs.Bool.{IsTrue}
use Rattle.std.specs.Option.{is_none, option_copied}
use Rattle.edm_types.specs.declared.store.Column.{Column}
use Rattle.json_form.specs.Nodes.{part_of}
use Rattle.groupings.specs.least_fault.Least.{IsLeast}
use Rattle.data_documents.specs.shape_faults.Places.{place_cmp}
use Rattle.data_documents.specs.table_documents.Shapes.{IsCellFault}
use Rattle.data_documents.proofs.table_documents.Cells.{cell_least, told_none}
use Rattle.data_documents.proofs.table_documents.shape.first_in_cell.Goals as goal

pub returns : goal.returns
returns c =
    let d = part_of c.args.node in
    let P : Bool → Type 0 = λ none. IsLeast place_cmp (λ place. IsTrue none × (place ≡ [])) c.here_if.result in
    let Q : Option (Bor Column) → Type 0 = λ column. IsLeast place_cmp (IsCellFault (option_copied column) d) c.here_if.result in
    subst Q (sym c.in-Some.is)
    (cell_least c.in-Some.column.now d c.here_if.result (subst P (told_none c.in_ok-value.value c.is_none.result c.is_none.ensures ∙ ap is_none c.in_ok-value.ensures) c.here_if.ensures))
