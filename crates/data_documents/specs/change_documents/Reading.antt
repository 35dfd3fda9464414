-- What reading a change document answers.
use Rattle.std.specs.Prelude.{◌≡◌, List, [], All, Result}
use Rattle.serde_json.specs.Data.{Data}
use Rattle.round_trip.specs.Words.{EntityModel}
use Rattle.entity_changes.specs.Changes.{IsChange}
use Rattle.entity_changes.specs.declared.change.Change.{Change}
use Rattle.data_documents.specs.declared.shape_faults.fault.ShapeFault.{ShapeFault}
use Rattle.data_documents.specs.entity_documents.Reading.{Reads}
use Rattle.data_documents.specs.change_documents.Changes.{changes_in}
use Rattle.data_documents.specs.change_documents.Shapes.{IsDocFault}

-- the document tells these changes, and each is one of the model
pub record TellsChanges (model : EntityModel) (d : Data) (changes : List Change) : Type 0 where
  pub is : changes ≡ changes_in model d
  pub fit : All (IsChange model) changes

-- the changes that are told, or the first place of another shape
abbrev pub ReadsChanges : EntityModel → Data → Result (List Change) ShapeFault → Type 0
ReadsChanges model d result = Reads (IsDocFault model d) (TellsChanges model d) [] result
