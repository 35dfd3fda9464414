use Rattle.std.proofs.Common.{◌≡◌, ◌⊎◌, [], Option, List, sym, subst}
use Rattle.std.specs.Prelude.{codes}
use Rattle.json_form.specs.Nodes.{part_of}
use Rattle.groupings.specs.least_fault.Least.{IsLeast}
use Rattle.groupings.proofs.least_fault.Leasts.{least_of_both}
use Rattle.data_documents.specs.declared.shape_faults.place.ShapeStep.{ShapeStep}
use Rattle.data_documents.specs.shape_faults.Nodes.{IsLack, IsObjectFault}
use Rattle.data_documents.specs.shape_faults.PlaceOrder.{place_cmp_total}
use Rattle.data_documents.specs.shape_faults.Places.{place_cmp}
use Rattle.data_documents.proofs.change_documents.shape.first_in_untold.Goals as goal

pub returns : goal.returns
returns c =
    let d = part_of c.args.node in
    let Inside : List ShapeStep → Type 0 = IsObjectFault (λ name part inside. (name ≡ codes "op") × (inside ≡ [])) d in
    let Missing : List ShapeStep → Type 0 = IsLack 0 (codes "op") d in
    let P : Option (List ShapeStep) → Type 0 = λ found. IsLeast place_cmp (λ place. Inside place ⊎ Missing place) found in
    subst P (sym c.earlier.ensures)
    (least_of_both place_cmp place_cmp_total Inside Missing c.in_ok-inside.inside c.in_ok-missing.missing c.in_ok-inside.ensures c.in_ok-missing.ensures)
