-- Where an entity object, the array of a key, or a link object is of another shape than the model asks for.
-- Source: CSDL version 3, EntityType, Key, Property and the End of an Association; RFC 8259.
use Rattle.std.specs.Prelude.{◌≡◌, ◌≢◌, ◌⊎◌, ℕ, List, [], ◌∷◌, length, Option, Some, None, IsSome, option_and_then, slice_get}
use Rattle.serde_json.specs.Data.{Data}
use Rattle.serde_json.specs.Find.{as_array}
use Rattle.emc_base.specs.Lists.{At}
use Rattle.json_form.specs.TreeParts.{items_in}
use Rattle.groupings.specs.least_fault.Least.{Among}
use Rattle.round_trip.specs.Words.{EntityModel, Assoc, TypeId, PropId, Value, props_of, key_props}
use Rattle.entity_state.specs.StateTree.{name_of}
use Rattle.data_documents.specs.declared.shape_faults.place.ShapeStep.{ShapeStep}
use Rattle.data_documents.specs.declared.shape_faults.place.ShapeStep.TheVariants.{Item}
use Rattle.data_documents.specs.shape_faults.Nodes.{IsLack, IsObjectFault}
use Rattle.data_documents.specs.shape_faults.Values.{value_in}
use Rattle.data_documents.specs.entity_documents.Names.{prop_named, role_type, type_in, type_member}

-- the value of a node for a property; none where the node is of another form
abbrev pub value_for : EntityModel → PropId → Data → Option Value
value_for model prop d = option_and_then (λ declared. value_in declared.kind d) (slice_get model.props prop.index)

-- a member of an entity object: it is that of no property, or of another form than the property's
abbrev pub IsValueFault : EntityModel → Option PropId → Data → List ShapeStep → Type 0
IsValueFault model None d place = place ≡ []
IsValueFault model (Some prop) d place = (value_for model prop d ≡ None) × (place ≡ [])

-- a member of an entity object of this type, by its name; the one that tells the type is as it should be
abbrev pub IsMemberFault : EntityModel → TypeId → List ℕ → Data → List ShapeStep → Type 0
IsMemberFault model ty name d place = (name ≢ type_member) × IsValueFault model (prop_named model ty name) d place

-- an object that tells no type: the member that should do so is wrong or missing, and nothing else is looked at
abbrev pub IsUntypedFault : Data → List ShapeStep → Type 0
IsUntypedFault d place = IsObjectFault (λ name part inside. (name ≡ type_member) × (inside ≡ [])) d place ⊎ IsLack 0 type_member d place

-- an object of this type: something is wrong with one of its members, or a property has none
abbrev pub IsTypedFault : EntityModel → TypeId → Data → List ShapeStep → Type 0
IsTypedFault model ty d place = IsObjectFault (IsMemberFault model ty) d place ⊎ Among (λ rank prop. IsLack rank (name_of model prop) d) (props_of model ty) place

-- the same of an object, whichever type it tells
abbrev pub IsFaultBy : EntityModel → Option TypeId → Data → List ShapeStep → Type 0
IsFaultBy model None d place = IsUntypedFault d place
IsFaultBy model (Some ty) d place = IsTypedFault model ty d place

-- an entity object
abbrev pub IsEntityFault : EntityModel → Data → List ShapeStep → Type 0
IsEntityFault model d place = IsFaultBy model (type_in model d) d place

-- the node is an array of just as many items as the key of the type has properties
abbrev pub IsKeyArray : EntityModel → TypeId → Data → Type 0
IsKeyArray model ty d = IsSome (as_array d) × (length (items_in d) ≡ length (key_props model ty))

-- the item beside a property of the key is of another form than the property's
pub record IsPartFault (model : EntityModel) (items : List Data) (i : ℕ) (prop : PropId) (place : List ShapeStep) : Type 0 where
  pub part : Data
  pub here : At items i part
  pub wrong : value_for model prop part ≡ None
  pub reached : place ≡ Item i ∷ []

-- the array of a key: it is none, or has too few or too many items, or something is wrong with one of them
abbrev pub IsKeyFault : EntityModel → TypeId → Data → List ShapeStep → Type 0
IsKeyFault model ty d place = (¬ IsKeyArray model ty d × (place ≡ [])) ⊎ Among (IsPartFault model (items_in d)) (key_props model ty) place

-- a member of a link object: it is that of neither role, or it isn't the key of that end
abbrev pub IsRoleFault : EntityModel → Option TypeId → Data → List ShapeStep → Type 0
IsRoleFault model None d place = place ≡ []
IsRoleFault model (Some ty) d place = IsKeyFault model ty d place

-- a link object: something is wrong with one of its members, or a role has none
abbrev pub IsLinkFault : EntityModel → Assoc → Data → List ShapeStep → Type 0
IsLinkFault model assoc d place =
    IsObjectFault (λ name. IsRoleFault model (role_type assoc name)) d place ⊎ (IsLack 0 assoc.first.role d place ⊎ IsLack 1 assoc.second.role d place)

-- a link object where the association may not be independent: then there are no links, and the object itself is wrong
abbrev pub IsLinkFaultBy : EntityModel → Option Assoc → Data → List ShapeStep → Type 0
IsLinkFaultBy model None d place = place ≡ []
IsLinkFaultBy model (Some assoc) d place = IsLinkFault model assoc d place
