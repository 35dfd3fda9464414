-- Every id of a model is in range.
-- Source: the references and names of CSDL version 3, which resolve (V7).
use Rattle.std.specs.Prelude.{◌<◌, ◌++◌, length, All, MatchOption, ⊤}
use Rattle.round_trip.specs.Words.{SetId, TypeId, PropId, EntityModel, End, TypeNode}
use Rattle.edm_types.specs.Forest.{node_type, IsNodeOf}

-- the id is that of a type
abbrev pub IsTypeId : EntityModel → TypeId → Type 0
IsTypeId model type = type.index < length model.types

-- that of a property
abbrev pub IsPropId : EntityModel → PropId → Type 0
IsPropId model prop = prop.index < length model.props

-- that of an entity set
abbrev pub IsSetId : EntityModel → SetId → Type 0
IsSetId model set = set.index < length model.sets

-- the set and the type of an end
abbrev pub HasEndIds : EntityModel → End → Type 0
HasEndIds model end = IsSetId model end.set × IsTypeId model end.ty

-- every id is in range: base types, keys and properties of types, owners of properties, types of the forest's nodes, element types of sets,
-- sets and types of ends, and the properties of constraints
pub record HasModelIds (model : EntityModel) : Type 0 where
  pub bases : All (λ type. MatchOption type.base ⊤ (IsTypeId model)) model.types
  pub keys : All (λ type. All (IsPropId model) type.key) model.types
  pub props : All (λ type. All (IsPropId model) type.props) model.types
  pub owners : All (λ prop. IsTypeId model prop.owner) model.props
  pub nodes : (node : TypeNode) → IsNodeOf model.forest node → IsTypeId model (node_type node)
  pub elements : All (λ set. IsTypeId model set.element) model.sets
  pub ends : All (λ assoc. HasEndIds model assoc.first × HasEndIds model assoc.second) model.assocs
  pub constraints : All (λ assoc. MatchOption assoc.constraint ⊤ (λ constraint. All (IsPropId model) (constraint.principal ++ constraint.dependent))) model.assocs
