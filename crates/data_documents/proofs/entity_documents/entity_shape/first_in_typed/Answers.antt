use Rattle.std.proofs.Common.{◌⊎◌, Option, List, sym, subst}
use Rattle.json_form.specs.Nodes.{part_of}
use Rattle.groupings.specs.least_fault.Least.{Among, IsLeast}
use Rattle.groupings.proofs.least_fault.Leasts.{least_of_both}
use Rattle.round_trip.specs.Words.{PropId, props_of}
use Rattle.entity_state.specs.StateTree.{name_of}
use Rattle.data_documents.specs.declared.shape_faults.place.ShapeStep.{ShapeStep}
use Rattle.data_documents.specs.shape_faults.Nodes.{IsLack, IsObjectFault}
use Rattle.data_documents.specs.shape_faults.PlaceOrder.{place_cmp_total}
use Rattle.data_documents.specs.shape_faults.Places.{place_cmp}
use Rattle.data_documents.specs.entity_documents.Shapes.{IsMemberFault}
use Rattle.data_documents.proofs.entity_documents.entity_shape.first_in_typed.Goals as goal

pub returns : goal.returns
returns c =
    let d = part_of c.args.node in
    let model = c.args.names.now.model.now in
    let ty = c.args.ty in
    let Inside : List ShapeStep → Type 0 = IsObjectFault (IsMemberFault model ty) d in
    let MissingOf : List PropId → List ShapeStep → Type 0 = λ props. Among (λ rank prop. IsLack rank (name_of model prop) d) props in
    let Missing : List ShapeStep → Type 0 = MissingOf (props_of model ty) in
    let P : Option (List ShapeStep) → Type 0 = λ found. IsLeast place_cmp (λ place. Inside place ⊎ Missing place) found in
    let Q : List PropId → Type 0 = λ props. IsLeast place_cmp (MissingOf props) c.in_ok-missing.missing in
    subst P (sym c.earlier.ensures)
    (least_of_both place_cmp place_cmp_total Inside Missing c.in_ok-inside.inside c.in_ok-missing.missing c.in_ok-inside.ensures
    (subst Q c.props_of.ensures c.in_ok-missing.ensures))
