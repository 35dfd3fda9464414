use Rattle.std.proofs.Common.{subst}
use Rattle.serde_json.specs.Data.{Data}
use Rattle.json_form.specs.Documents.{tree_of}
use Rattle.round_trip.specs.Words.{EntityModel}
use Rattle.data_documents.specs.change_documents.Reading.{ReadsChanges}
use Rattle.data_documents.proofs.change_documents.changes.changes_of_doc.Goals as goal

pub returns : goal.returns
returns c =
    let result = c.changes_of_root-changes.result in
    let OfModel : EntityModel → Type 0 = λ model. ReadsChanges model (tree_of c.args.doc.now) result in
    let OfTree : Data → Type 0 = λ d. ReadsChanges c.in_ok-names.names.model.now d result in
    subst OfModel c.in_ok-names.ensures (subst OfTree c.root.ensures c.changes_of_root-changes.ensures)
