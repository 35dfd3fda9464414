-- Where a change document is of another shape than the model asks for.
-- Source: this project's change documents; RFC 8259.
use Rattle.std.specs.Prelude.{◌≡◌, ◌⊎◌, List, [], Option, Some, None, false, codes}
use Rattle.serde_json.specs.Data.{Data}
use Rattle.round_trip.specs.Words.{EntityModel, AssocId, SetId}
use Rattle.data_documents.specs.declared.change_documents.operation.Operation.{Operation}
use Rattle.data_documents.specs.declared.change_documents.operation.Operation.TheVariants.{Insert, Update, Delete, Link, Unlink}
use Rattle.data_documents.specs.declared.change_documents.operation.Member.{Member}
use Rattle.data_documents.specs.declared.change_documents.operation.Member.TheVariants as member
use Rattle.data_documents.specs.declared.shape_faults.place.ShapeStep.{ShapeStep}
use Rattle.data_documents.specs.shape_faults.Nodes.{IsArrayFault, IsLack, IsObjectFault}
use Rattle.data_documents.specs.entity_documents.Names.{independent_at}
use Rattle.data_documents.specs.entity_documents.Shapes.{IsEntityFault, IsKeyFault, IsLinkFaultBy}
use Rattle.data_documents.specs.change_documents.Names.{element_of, link_set_in, member_named, names_set, operation_in, set_in, told_member}

-- the key of an entity of a set; where the change names no set it isn't looked at
abbrev pub IsSetKeyFault : EntityModel → Option SetId → Data → List ShapeStep → Type 0
IsSetKeyFault model None d place = ⊥
IsSetKeyFault model (Some s) d place = IsKeyFault model (element_of model s) d place

-- a link of an association set; where the change names none it isn't looked at
abbrev pub IsSetLinkFault : EntityModel → Option AssocId → Data → List ShapeStep → Type 0
IsSetLinkFault model None d place = ⊥
IsSetLinkFault model (Some a) d place = IsLinkFaultBy model (independent_at model a) d place

-- what comes, goes or takes another's place: an entity by the type that it tells, a key and a link by the set that the change names
abbrev pub IsToldFault : EntityModel → Operation → Data → Data → List ShapeStep → Type 0
IsToldFault model Insert change d place = IsEntityFault model d place
IsToldFault model Update change d place = IsEntityFault model d place
IsToldFault model Delete change d place = IsSetKeyFault model (set_in model change) d place
IsToldFault model Link change d place = IsSetLinkFault model (link_set_in model change) d place
IsToldFault model Unlink change d place = IsSetLinkFault model (link_set_in model change) d place

-- a member of a change: no set has the name that it gives, something is wrong with what it tells, or the operation has no such member
abbrev pub IsMemberFault : EntityModel → Operation → Data → Member → Data → List ShapeStep → Type 0
IsMemberFault model operation change member.Operation d place = ⊥
IsMemberFault model operation change member.Set d place = (names_set model operation change ≡ false) × (place ≡ [])
IsMemberFault model operation change member.Told d place = IsToldFault model operation change d place
IsMemberFault model operation change member.Other d place = place ≡ []

-- a change that tells no operation: the member that should do so is wrong or missing, and nothing else is looked at
abbrev pub IsUntoldFault : Data → List ShapeStep → Type 0
IsUntoldFault d place = IsObjectFault (λ name part inside. (name ≡ codes "op") × (inside ≡ [])) d place ⊎ IsLack 0 (codes "op") d place

-- a change of this operation: something is wrong with one of its members, or it has no set, or not what its operation asks for
abbrev pub IsOperationFault : EntityModel → Operation → Data → List ShapeStep → Type 0
IsOperationFault model operation d place =
    IsObjectFault (λ name. IsMemberFault model operation d (member_named operation name)) d place
    ⊎ (IsLack 1 (codes "set") d place ⊎ IsLack 2 (told_member operation) d place)

-- the same of a change, whichever operation it tells
abbrev pub IsFaultBy : EntityModel → Option Operation → Data → List ShapeStep → Type 0
IsFaultBy model None d place = IsUntoldFault d place
IsFaultBy model (Some operation) d place = IsOperationFault model operation d place

-- a change
abbrev pub IsChangeFault : EntityModel → Data → List ShapeStep → Type 0
IsChangeFault model d place = IsFaultBy model (operation_in d) d place

-- the document: no array, or something is wrong with one of its changes
abbrev pub IsDocFault : EntityModel → Data → List ShapeStep → Type 0
IsDocFault model d place = IsArrayFault (IsChangeFault model) d place
