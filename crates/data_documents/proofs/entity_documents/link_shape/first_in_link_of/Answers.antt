use Rattle.std.proofs.Common.{◌⊎◌, ℕ, Option, List, sym, subst}
use Rattle.json_form.specs.Nodes.{part_of}
use Rattle.groupings.specs.least_fault.Least.{IsLeast}
use Rattle.groupings.proofs.least_fault.Leasts.{least_of_both}
use Rattle.data_documents.specs.declared.shape_faults.place.ShapeStep.{ShapeStep}
use Rattle.data_documents.specs.shape_faults.Nodes.{IsLack, IsObjectFault}
use Rattle.data_documents.specs.shape_faults.PlaceOrder.{place_cmp_total}
use Rattle.data_documents.specs.shape_faults.Places.{place_cmp}
use Rattle.data_documents.specs.entity_documents.Names.{role_type}
use Rattle.data_documents.specs.entity_documents.Shapes.{IsRoleFault}
use Rattle.data_documents.proofs.entity_documents.link_shape.first_in_link_of.Goals as goal

pub returns : goal.returns
returns c =
    let d = part_of c.args.node in
    let model = c.args.model.now in
    let assoc = c.args.assoc.now in
    let one = c.in_ok-first.first in
    let other = c.in_ok-second.second in
    let Inside : List ShapeStep → Type 0 = IsObjectFault (λ name. IsRoleFault model (role_type assoc name)) d in
    let First : List ShapeStep → Type 0 = IsLack 0 assoc.first.role d in
    let Second : List ShapeStep → Type 0 = IsLack 1 assoc.second.role d in
    let Missing : List ShapeStep → Type 0 = λ place. First place ⊎ Second place in
    let P : List ℕ → Type 0 = λ name. IsLeast place_cmp (IsLack 0 name d) one in
    let Q : List ℕ → Type 0 = λ name. IsLeast place_cmp (IsLack 1 name d) other in
    let R : Option (List ShapeStep) → Type 0 = λ found. IsLeast place_cmp Missing found in
    let S : Option (List ShapeStep) → Type 0 = λ found. IsLeast place_cmp (λ place. Inside place ⊎ Missing place) found in
    let missing : R c.earlier.result = subst R (sym c.earlier.ensures)
    (least_of_both place_cmp place_cmp_total First Second one other (subst P c.as_str.ensures.text c.in_ok-first.ensures) (subst Q c.as_str-2.ensures.text c.in_ok-second.ensures)) in
    subst S (sym c.earlier-2.ensures)
    (least_of_both place_cmp place_cmp_total Inside Missing c.in_ok-inside.inside c.earlier.result c.in_ok-inside.ensures missing)
