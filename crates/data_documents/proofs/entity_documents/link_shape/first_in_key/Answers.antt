use Rattle.std.proofs.Common.{List, IfOk, subst}
use Rattle.std.proofs.lemmas.Result.{IfOk-weaker}
use Rattle.json_form.specs.Nodes.{part_of}
use Rattle.json_form.specs.TreeParts.{items_in}
use Rattle.groupings.specs.least_fault.Least.{Among, IsLeast}
use Rattle.round_trip.specs.Words.{PropId, key_props}
use Rattle.data_documents.specs.shape_faults.Places.{place_cmp}
use Rattle.data_documents.specs.entity_documents.Shapes.{IsKeyFault, IsPartFault}
use Rattle.data_documents.proofs.entity_documents.Places.{in_key}
use Rattle.data_documents.proofs.entity_documents.link_shape.first_in_key.Goals as goal

pub returns : goal.returns
returns c =
    let model = c.args.model.now in
    let ty = c.args.ty in
    let d = part_of c.args.node in
    let Q : List PropId → Type 0 = λ props. IfOk c.first_among.result (IsLeast place_cmp (Among (IsPartFault model (items_in d)) props)) in
    IfOk-weaker c.first_among.result (IsLeast place_cmp (Among (IsPartFault model (items_in d)) (key_props model ty))) (IsLeast place_cmp (IsKeyFault model ty d))
    (λ found least. in_key model ty d found (c.is_key_array.ensures.0 c.if-not-is_key_array.false) least)
    (subst Q c.key_props.ensures c.first_among.ensures)
