use Rattle.std.proofs.Common.{subst}
use Rattle.serde_json.specs.Data.{Data}
use Rattle.json_form.specs.Documents.{tree_of}
use Rattle.round_trip.specs.Words.{EntityModel}
use Rattle.data_documents.specs.entity_documents.Reading.{ReadsState}
use Rattle.data_documents.proofs.entity_documents.state.state_of_doc.Goals as goal

pub returns : goal.returns
returns c =
    let result = c.state_of_root-state.result in
    let OfModel : EntityModel → Type 0 = λ model. ReadsState model (tree_of c.args.doc.now) result in
    let OfTree : Data → Type 0 = λ d. ReadsState c.in_ok-names.names.model.now d result in
    subst OfModel c.in_ok-names.ensures (subst OfTree c.root.ensures c.state_of_root-state.ensures)
