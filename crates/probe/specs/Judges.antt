-- What is judged of a data document: that what it holds is legal, or the first breach; or why it isn't judged.
-- Source: the rules S1 to S8 and B1 to B4 of `round_trip`, and this project's entity and table documents.
use Rattle.std.specs.Prelude.{Option, Result, Ok, Err, ⊤}
use Rattle.serde_json.specs.Data.{Data}
use Rattle.round_trip.specs.Words.{Breach, EntityModel, State, StoreModel, Tables}
use Rattle.csdl_model.specs.ReadsModel.{IsModelOf, ReadsModel}
use Rattle.ssdl_model.specs.ReadsStore.{IsStoreOf, ReadsStore}
use Rattle.data_documents.specs.entity_documents.Reading.{ReadsState}
use Rattle.state_legality.specs.Tells.{TellsState}
use Rattle.data_documents.specs.table_documents.Reading.{ReadsTables}
use Rattle.table_files.specs.table_legality.Tells.{TellsTables}
use Rattle.probe.specs.declared.data.refusal.Refusal.{Refusal}
use Rattle.probe.specs.declared.data.refusal.Refusal.TheVariants.{Memory, Shape, Vocabulary}

-- of the state that the document holds by the model of the CSDL document
pub record JudgesState (csdl d : Data) (told : Option Breach) : Type 0 where
  pub model : EntityModel
  pub is_model : IsModelOf csdl model
  pub state : State
  pub is_state : ReadsState model d (Ok state)
  pub tells : TellsState model state told

-- the same, and the other answers: the CSDL document breaks a rule, or the other has another shape
abbrev pub JudgesEntities : Data → Data → Result (Option Breach) Refusal → Type 0
JudgesEntities csdl d (Ok told) = JudgesState csdl d told
JudgesEntities csdl d (Err (Vocabulary fault)) = ReadsModel csdl (Err fault)
JudgesEntities csdl d (Err (Shape fault)) = (model : EntityModel) × IsModelOf csdl model × ReadsState model d (Err fault)
JudgesEntities csdl d (Err Memory) = ⊤

-- of the tables that the document holds by the store of the SSDL document
pub record JudgesRows (ssdl d : Data) (told : Option Breach) : Type 0 where
  pub store : StoreModel
  pub is_store : IsStoreOf ssdl store
  pub tables : Tables
  pub are_tables : ReadsTables store d (Ok tables)
  pub tells : TellsTables store tables told

abbrev pub JudgesTables : Data → Data → Result (Option Breach) Refusal → Type 0
JudgesTables ssdl d (Ok told) = JudgesRows ssdl d told
JudgesTables ssdl d (Err (Vocabulary fault)) = ReadsStore ssdl (Err fault)
JudgesTables ssdl d (Err (Shape fault)) = (store : StoreModel) × IsStoreOf ssdl store × ReadsTables store d (Err fault)
JudgesTables ssdl d (Err Memory) = ⊤
