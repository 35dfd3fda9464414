-- What reading an entity document, or an entity, a link or a key of one, answers.
use Rattle.std.specs.Prelude.{◌≡◌, ℕ, List, [], ◌++◌, length, Result, Ok, Err, Some, None, ⊤}
use Rattle.serde_json.specs.Data.{Data}
use Rattle.groupings.specs.least_fault.Least.{IsLeast}
use Rattle.round_trip.specs.Words.{EntityModel, Assoc, Entity, Link, State, TypeId, AssocId, Value, key_props, IsEntity, IsLink, IsState}
use Rattle.data_documents.specs.declared.shape_faults.fault.ShapeFault.{ShapeFault}
use Rattle.data_documents.specs.declared.shape_faults.fault.ShapeFault.TheVariants.{Shape, Memory}
use Rattle.data_documents.specs.declared.shape_faults.place.ShapeStep.{ShapeStep}
use Rattle.data_documents.specs.shape_faults.Places.{place_cmp, pointer_of_place}
use Rattle.data_documents.specs.entity_documents.Names.{independent_at}
use Rattle.data_documents.specs.entity_documents.Shapes.{IsEntityFault, IsKeyFault, IsLinkFaultBy}
use Rattle.data_documents.specs.entity_documents.DocShapes.{IsDocFault}
use Rattle.data_documents.specs.entity_documents.States.{entity_in, key_in, link_in, state_in}

-- nothing is wrong with the shape, and this is what was meant
pub record ReadAs {A : Type 0} (wrong : List ShapeStep → Type 0) (Means : A → Type 0) (read : A) : Type 0 where
  pub shape : IsLeast place_cmp wrong None
  pub meant : Means read

-- something is wrong, and this is the pointer of the first place where that is so, behind that of the node
pub record FailsFirstAt (wrong : List ShapeStep → Type 0) (node : List ℕ) (pointer : List ℕ) : Type 0 where
  pub place : List ShapeStep
  pub first : IsLeast place_cmp wrong (Some place)
  pub told : pointer ≡ node ++ pointer_of_place place

-- what was meant, or the first place of another shape; want of memory says nothing
abbrev pub Reads : {A : Type 0} → (List ShapeStep → Type 0) → (A → Type 0) → List ℕ → Result A ShapeFault → Type 0
Reads wrong Means node (Ok read) = ReadAs wrong Means read
Reads wrong Means node (Err (Shape pointer)) = FailsFirstAt wrong node pointer
Reads wrong Means node (Err Memory) = ⊤

-- the node means this entity, and it is one of the model
pub record MeansEntity (model : EntityModel) (d : Data) (entity : Entity) : Type 0 where
  pub is : entity ≡ entity_in model d
  pub fits : IsEntity model entity

-- the node means this key, and it has as many parts as that of the type
pub record MeansKey (model : EntityModel) (ty : TypeId) (d : Data) (key : List Value) : Type 0 where
  pub is : key ≡ key_in model ty d
  pub fits : length key ≡ length (key_props model ty)

-- the node means this link, and it is one of the association, which is independent
pub record MeansLink (model : EntityModel) (id : AssocId) (d : Data) (link : Link) : Type 0 where
  pub assoc : Assoc
  pub here : independent_at model id ≡ Some assoc
  pub is : link ≡ link_in model assoc d
  pub fits : IsLink model assoc link

-- the document means this state, and it is one of the model
pub record MeansState (model : EntityModel) (d : Data) (state : State) : Type 0 where
  pub is : state ≡ state_in model d
  pub fits : IsState model state

-- an entity object, the array of a key, and a link object, each at a place of a document whose pointer is told
abbrev pub ReadsEntity : EntityModel → Data → List ℕ → Result Entity ShapeFault → Type 0
ReadsEntity model d node result = Reads (IsEntityFault model d) (MeansEntity model d) node result

abbrev pub ReadsKey : EntityModel → TypeId → Data → List ℕ → Result (List Value) ShapeFault → Type 0
ReadsKey model ty d node result = Reads (IsKeyFault model ty d) (MeansKey model ty d) node result

abbrev pub ReadsLink : EntityModel → AssocId → Data → List ℕ → Result Link ShapeFault → Type 0
ReadsLink model id d node result = Reads (IsLinkFaultBy model (independent_at model id) d) (MeansLink model id d) node result

-- a whole document
abbrev pub ReadsState : EntityModel → Data → Result State ShapeFault → Type 0
ReadsState model d result = Reads (IsDocFault model d) (MeansState model d) [] result
