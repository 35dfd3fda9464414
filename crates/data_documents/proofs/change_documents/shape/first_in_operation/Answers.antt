use Rattle.std.proofs.Common.{◌⊎◌, ℕ, Option, List, sym, subst}
use Rattle.std.specs.Prelude.{codes}
use Rattle.json_form.specs.Nodes.{part_of}
use Rattle.groupings.specs.least_fault.Least.{IsLeast}
use Rattle.groupings.proofs.least_fault.Leasts.{least_of_both}
use Rattle.data_documents.specs.declared.shape_faults.place.ShapeStep.{ShapeStep}
use Rattle.data_documents.specs.shape_faults.Nodes.{IsLack, IsObjectFault}
use Rattle.data_documents.specs.shape_faults.PlaceOrder.{place_cmp_total}
use Rattle.data_documents.specs.shape_faults.Places.{place_cmp}
use Rattle.data_documents.specs.change_documents.Names.{member_named, told_member}
use Rattle.data_documents.specs.change_documents.Shapes.{IsMemberFault}
use Rattle.data_documents.proofs.change_documents.shape.first_in_operation.Goals as goal

pub returns : goal.returns
returns c =
    let d = part_of c.args.node in
    let operation = c.args.operation in
    let Inside : List ShapeStep → Type 0 = IsObjectFault (λ name. IsMemberFault c.args.names.now.model.now operation d (member_named operation name)) d in
    let NoSet : List ShapeStep → Type 0 = IsLack 1 (codes "set") d in
    let NoneTold : List ShapeStep → Type 0 = IsLack 2 (told_member operation) d in
    let Missing : List ShapeStep → Type 0 = λ place. NoSet place ⊎ NoneTold place in
    let P : List ℕ → Type 0 = λ name. IsLeast place_cmp (IsLack 2 name d) c.in_ok-told.told in
    let Q : Option (List ShapeStep) → Type 0 = λ found. IsLeast place_cmp Missing found in
    let R : Option (List ShapeStep) → Type 0 = λ found. IsLeast place_cmp (λ place. Inside place ⊎ Missing place) found in
    let missing : Q c.earlier.result = subst Q (sym c.earlier.ensures)
    (least_of_both place_cmp place_cmp_total NoSet NoneTold c.in_ok-set.set c.in_ok-told.told c.in_ok-set.ensures (subst P c.told_member.ensures c.in_ok-told.ensures)) in
    subst R (sym c.earlier-2.ensures)
    (least_of_both place_cmp place_cmp_total Inside Missing c.in_ok-inside.inside c.earlier.result c.in_ok-inside.ensures missing)
