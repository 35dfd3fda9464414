use Rattle.std.proofs.Common.{◌⊎◌, ℕ, Option, List, option_and_then, slice_get, sym, subst}
use Rattle.edm_types.specs.declared.store.Column.{Column}
use Rattle.json_form.specs.Nodes.{part_of}
use Rattle.groupings.specs.least_fault.Least.{Among, IsLeast}
use Rattle.groupings.proofs.least_fault.Leasts.{least_of_both}
use Rattle.groupings.specs.name_places.PlacesIn.{place_in}
use Rattle.data_documents.specs.declared.shape_faults.place.ShapeStep.{ShapeStep}
use Rattle.data_documents.specs.shape_faults.Nodes.{IsLack, IsObjectFault}
use Rattle.data_documents.specs.shape_faults.PlaceOrder.{place_cmp_total}
use Rattle.data_documents.specs.shape_faults.Places.{place_cmp}
use Rattle.data_documents.specs.table_documents.Shapes.{IsCellFault}
use Rattle.data_documents.proofs.table_documents.shape.RowSearchNodeSearch.find.Goals as goal

pub returns : goal.returns
returns c =
    let d = part_of c.args.node in
    let cols = c.args.self.now.cols.now in
    let named : List ℕ → Option Column = λ name. option_and_then (slice_get cols) (place_in c.args.self.now.places.now name) in
    let Inside : List ShapeStep → Type 0 = IsObjectFault (λ name. IsCellFault (named name)) d in
    let Missing : List ShapeStep → Type 0 = Among (λ rank column. IsLack rank column.name d) cols in
    let P : Option (List ShapeStep) → Type 0 = λ found. IsLeast place_cmp (λ place. Inside place ⊎ Missing place) found in
    subst P (sym c.earlier.ensures)
    (least_of_both place_cmp place_cmp_total Inside Missing c.in_ok-inside.inside c.in_ok-missing.missing c.in_ok-inside.ensures c.in_ok-missing.ensures)
