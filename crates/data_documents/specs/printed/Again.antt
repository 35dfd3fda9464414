-- What a printed document tells when it is read.
-- Source: RFC 8259; this project's table documents and entity documents.
use Rattle.std.specs.Prelude.{◌≡◌, ℕ, List, Some}
use Rattle.serde_json.specs.Data.{Data}
use Rattle.json_form.specs.TreeParts.{tree_at}
use Rattle.round_trip.specs.Words.{EntityModel, State, StoreModel, Tables}
use Rattle.entity_state.specs.InOrder.{IsSortedState}
use Rattle.table_files.specs.InOrder.{AreInKeyOrder}
use Rattle.data_documents.specs.entity_documents.DocShapes.{IsDocFault}
use Rattle.data_documents.specs.entity_documents.Reading.{MeansState, ReadAs as IsReadAs}
use Rattle.data_documents.specs.table_documents.Reading.{ReadAs}

-- the text holds a document of the right shape, and the tables that it tells are these again, in the order of their primary keys
pub record TellsTablesAgain (store : StoreModel) (tables : Tables) (text : List ℕ) : Type 0 where
  pub tree : Data
  pub held : tree_at text ≡ Some tree
  pub again : Tables
  pub order : AreInKeyOrder store tables again
  pub read : ReadAs store tree again

-- the text holds a document of the right shape, and the state that it tells is this one again, in the order of keys
pub record TellsStateAgain (model : EntityModel) (state : State) (text : List ℕ) : Type 0 where
  pub tree : Data
  pub held : tree_at text ≡ Some tree
  pub again : State
  pub order : IsSortedState model state again
  pub read : IsReadAs (IsDocFault model tree) (MeansState model tree) again
