-- Entities by their properties. What isn't there counts as null, or as no property.
-- Source: CSDL version 3, EntityType, Key and Property.
use Rattle.std.specs.Prelude.{◌≡◌, ◌==◌, List, [], ◌∷◌, map, length, slice_get, Option, if◌then◌else◌}
use Rattle.std.specs.Option.{option_map_or}
use Rattle.edm_types.specs.Types.{TypeId, PropId, Value, Null, EntityModel, EntityType, Entity, At}

-- the type of an id; None where the model has none
abbrev pub type_at : EntityModel → TypeId → Option EntityType
type_at model t = slice_get model.types t.index

-- a type's properties, inherited ones included
abbrev pub props_of : EntityModel → TypeId → List PropId
props_of model t = option_map_or (λ type. type.props) (type_at model t) []

-- the key of a type, which its root type gives
abbrev pub key_props : EntityModel → TypeId → List PropId
key_props model t = option_map_or (λ type. type.key) (type_at model t) []

-- the value that stands in the second list where the property stands in the first
abbrev pub value_beside : PropId → List PropId → List Value → Value
value_beside prop [] values = Null
value_beside prop (p ∷ props) [] = Null
value_beside prop (p ∷ props) (value ∷ values) = if p.index == prop.index then value else value_beside prop props values

-- an entity's value of a property
abbrev pub value_of : EntityModel → Entity → PropId → Value
value_of model entity prop = value_beside prop (props_of model entity.ty) entity.values

-- an entity's values of several properties
abbrev pub values_of : EntityModel → Entity → List PropId → List Value
values_of model entity props = map (value_of model entity) props

-- an entity's key
abbrev pub key_of : EntityModel → Entity → List Value
key_of model entity = values_of model entity (key_props model entity.ty)

-- the type is one of the model's, and each of its properties has a value
abbrev pub IsEntity : EntityModel → Entity → Type 0
IsEntity model entity = (type : EntityType) × At model.types entity.ty.index type × (length entity.values ≡ length type.props)
