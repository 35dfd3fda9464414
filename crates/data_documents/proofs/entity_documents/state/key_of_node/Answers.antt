use Rattle.std.proofs.Common.{length, ap, ◌∙◌}
use Rattle.json_form.specs.Nodes.{part_of}
use Rattle.data_documents.specs.entity_documents.Shapes.{IsKeyFault}
use Rattle.data_documents.proofs.entity_documents.Fits.{key_fits}
use Rattle.data_documents.proofs.entity_documents.Places.{none_found}
use Rattle.data_documents.proofs.entity_documents.state.key_of_node.Goals as goal

pub returns : goal.returns
returns c =
    let model = c.args.names.now.model.now in
    let d = part_of c.args.node in
    record {
      shape = none_found (IsKeyFault model c.args.ty d) c.in_ok-place.field-0 c.in_default.not-Some c.in_ok-place.ensures;
      meant = record { is = c.in_ok-key.ensures; fits = ap length c.in_ok-key.ensures ∙ key_fits model c.args.ty d };
    }
