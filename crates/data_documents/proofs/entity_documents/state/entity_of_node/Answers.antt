use Rattle.std.proofs.Common.{List, sym, subst}
use Rattle.json_form.specs.Nodes.{part_of}
use Rattle.round_trip.specs.Words.{IsEntity}
use Rattle.data_documents.specs.declared.shape_faults.place.ShapeStep.{ShapeStep}
use Rattle.data_documents.specs.entity_documents.Shapes.{IsEntityFault}
use Rattle.data_documents.proofs.entity_documents.Fits.{entity_fits}
use Rattle.data_documents.proofs.entity_documents.Places.{none_found}
use Rattle.data_documents.proofs.entity_documents.state.entity_of_node.Goals as goal

pub returns : goal.returns
returns c =
    let model = c.args.names.now.model.now in
    let d = part_of c.args.node in
    let none : (place : List ShapeStep) → ¬ IsEntityFault model d place = none_found (IsEntityFault model d) c.in_ok-place.field-0 c.in_default.not-Some c.in_ok-place.ensures in
    record { shape = none; meant = record { is = c.in_ok-entity.ensures; fits = subst (IsEntity model) (sym c.in_ok-entity.ensures) (entity_fits model d none) } }
