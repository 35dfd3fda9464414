-- The Principal and the Dependent of a constraint: the types at their roles, and the properties that they name.
-- Source: CSDL version 3, Association, ReferentialConstraint, Principal, Dependent and PropertyRef.
use Rattle.std.specs.Prelude.{◌≡◌, ℕ, List, [], length, map, slice_get, Option, Some, unwrap_or, true, Any, Contains, MatchOption}
use Rattle.std.specs.List.{range_with_len}
use Rattle.std.specs.Option.{option_and_then}
use Rattle.graphs.specs.base_chains.Chains.{root}
use Rattle.csdl_names.specs.declared.csdl_lists.raw.RawAssociation.{RawAssociation}
use Rattle.csdl_names.specs.declared.csdl_lists.raw.RawConstraint.{RawConstraint}
use Rattle.csdl_names.specs.declared.csdl_lists.raw.RawModel.{RawModel}
use Rattle.csdl_names.specs.declared.csdl_lists.raw.RawProp.{RawProp}
use Rattle.csdl_names.specs.declared.csdl_lists.raw.RawRole.{RawRole}
use Rattle.csdl_names.specs.csdl_lists.References.{Names, base_of, names_in}
use Rattle.csdl_names.specs.PropPlaces.{prop_at, prop_of_type}
use Rattle.csdl_names.specs.Unresolved.{type_of_role}
use Rattle.csdl_types.specs.declared.simple.PropType.{PropType}
use Rattle.emc_base.specs.Lists.{HoldsEachOnce}

-- the type at the top above each type
abbrev pub roots_in : RawModel → List ℕ
roots_in model = map (root (base_of (names_in model) model) (length model.types)) (range_with_len 0 (length model.types))

module _ (names : Names) (model : RawModel) where
  -- an association set names the association at a place
  abbrev pub IsNamed : ℕ → Type 0
  IsNamed a = Any (λ set. names.association_named set.association ≡ Some a) model.container.association_sets

  -- the key that the type at the top above a type gives
  abbrev pub root_key : ℕ → Option (List (List ℕ))
  root_key i = option_and_then (λ type. type.key) (slice_get model.types (root (base_of names model) (length model.types) i))

  -- the names of the key of the type at a place
  abbrev pub key_names : ℕ → List (List ℕ)
  key_names i = unwrap_or (root_key i) []

  -- the property of this name that a type has, its own or an inherited one
  abbrev pub prop_named : ℕ → List ℕ → Option RawProp
  prop_named i name = option_and_then (prop_at model) (prop_of_type names model i name)

  -- the property may be null
  abbrev pub IsNullable : ℕ → List ℕ → Type 0
  IsNullable i name = MatchOption (prop_named i name) ⊥ (λ prop. prop.nullable ≡ true)

  module _ (association : RawAssociation) (side : RawRole) where
    -- of the type at the role of this side, where it is found
    abbrev pub OfType : (ℕ → Type 0) → Type 0
    OfType P = MatchOption (type_of_role names model association side.role) ⊥ P

    -- the properties of this side are the whole key of its type, each once and in any order
    abbrev pub IsWholeKey : Type 0
    IsWholeKey = OfType (λ i. HoldsEachOnce (key_names i) side.props)

    -- a property of the type's key is among them
    abbrev pub HasKeyProp : Type 0
    HasKeyProp = OfType (λ i. Any (Contains (key_names i)) side.props)

    -- one of them may be null
    abbrev pub HasNullable : Type 0
    HasNullable = OfType (λ i. Any (IsNullable i) side.props)

  -- where it is known what Types name
  module _ (typing : List ℕ → Option PropType) where
    -- what the Type of the property names that a type has
    abbrev pub type_of_prop : ℕ → List ℕ → Option PropType
    type_of_prop i name = option_and_then (λ prop. typing prop.kind) (prop_named i name)

    -- the same of a type that may not be found
    abbrev pub type_in : Option ℕ → List ℕ → Option PropType
    type_in type name = option_and_then (λ i. type_of_prop i name) type

    -- what the Types of the properties of a side name, in the order of the list
    abbrev pub types_of_side : RawAssociation → RawRole → List (Option PropType)
    types_of_side association side = map (type_in (type_of_role names model association side.role)) side.props

module _ (model : RawModel) (typing : List ℕ → Option PropType) where
  -- what the Types of these properties of a type name, in the order of the list
  abbrev pub types_in : Option ℕ → List (List ℕ) → List (Option PropType)
  types_in type props = map (type_in (names_in model) model typing type) props

  -- the Types of both sides name the same, one by one
  abbrev pub HaveSameTypes : RawAssociation → RawConstraint → Type 0
  HaveSameTypes association constraint =
      types_of_side (names_in model) model typing association constraint.principal ≡ types_of_side (names_in model) model typing association constraint.dependent
