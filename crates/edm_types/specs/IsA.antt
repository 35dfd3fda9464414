-- Which types are derived from which.
-- Source: CSDL version 3, EntityType and its BaseType.
use Rattle.std.specs.Prelude.{◌≡◌, Some, false}
use Rattle.edm_types.specs.Types.{TypeId, EntityModel, EntityType, At}

-- u is the BaseType of t
abbrev pub HasBase : EntityModel → TypeId → TypeId → Type 0
HasBase model t u = (type : EntityType) × At model.types t.index type × (type.base ≡ Some u)

-- t is u or derived from u: the least reflexive and transitive relation that holds each type with its BaseType
pub data IsA (model : EntityModel) : TypeId → TypeId → Type 0 where
  same : (t : TypeId) → IsA model t t
  base : (t u : TypeId) → HasBase model t u → IsA model t u
  chain : (s t u : TypeId) → IsA model s t → IsA model t u → IsA model s u

-- there may be entities of just this type
abbrev pub IsConcrete : EntityModel → TypeId → Type 0
IsConcrete model t = (type : EntityType) × At model.types t.index type × (type.is_abstract ≡ false)
