-- Where an entity document is of another shape than the model asks for.
-- Source: CSDL version 3, EntitySet and AssociationSet; RFC 8259.
use Rattle.std.specs.Prelude.{◌≡◌, ℕ, List, [], Option, Some, None}
use Rattle.serde_json.specs.Data.{Data}
use Rattle.round_trip.specs.Words.{EntityModel, Assoc}
use Rattle.schema_names.specs.SchemaNames.{set_named}
use Rattle.data_documents.specs.declared.shape_faults.place.ShapeStep.{ShapeStep}
use Rattle.data_documents.specs.shape_faults.Nodes.{IsArrayFault, IsObjectFault}
use Rattle.data_documents.specs.entity_documents.Names.{independent_named}
use Rattle.data_documents.specs.entity_documents.Shapes.{IsEntityFault, IsLinkFault}

-- the entities of a set: no array, or something is wrong with one of its items
abbrev pub AreEntitiesFault : EntityModel → Data → List ShapeStep → Type 0
AreEntitiesFault model d place = IsArrayFault (IsEntityFault model) d place

-- a member that is of no entity set: it is of no independent association set either, or its links are wrong
abbrev pub AreLinksFault : EntityModel → Option Assoc → Data → List ShapeStep → Type 0
AreLinksFault model None d place = place ≡ []
AreLinksFault model (Some assoc) d place = IsArrayFault (IsLinkFault model assoc) d place

-- a member of the document, where its name may be that of an entity set
abbrev pub IsSetFault : EntityModel → Option ℕ → Option Assoc → Data → List ShapeStep → Type 0
IsSetFault model (Some set) assoc d place = AreEntitiesFault model d place
IsSetFault model None assoc d place = AreLinksFault model assoc d place

-- the document: no object, or something is wrong with one of its members
abbrev pub IsDocFault : EntityModel → Data → List ShapeStep → Type 0
IsDocFault model d place = IsObjectFault (λ name. IsSetFault model (set_named model name) (independent_named model name)) d place
