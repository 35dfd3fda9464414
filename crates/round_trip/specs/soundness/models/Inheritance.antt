-- What base types give: the key and the properties.
-- Source: CSDL version 3, EntityType, BaseType, Key and Property.
use Rattle.std.specs.Prelude.{◌≡◌, ◌≢◌, ◌==◌, ℕ, ◌≤◌, List, [], ◌++◌, map, length, All, Contains, false, MatchOption}
use Rattle.std.specs.Option.{option_map_or}
use Rattle.round_trip.specs.Words.{TypeId, PropId, EntityModel, EntityType, Prop, At, props_of, key_props}
use Rattle.emc_base.specs.Lists.{places_of, AreApart}
use Rattle.round_trip.specs.soundness.Kinds.{IsKeyKind}
use Rattle.round_trip.specs.soundness.Lookups.{IsAncestor}

-- the property at a place
abbrev pub prop_numbered : ℕ → PropId
prop_numbered place = record { index = place }

-- V8: no type is its own ancestor
abbrev pub HasNoCircle : EntityModel → Type 0
HasNoCircle model = (t : TypeId) → ¬ IsAncestor model t t

-- the properties that a type declares, in their order
abbrev pub declared_props : EntityModel → TypeId → List PropId
declared_props model t = map prop_numbered (places_of (λ prop. prop.owner.index == t.index) model.props)

-- a type's properties are those of its base type, then those that it declares
abbrev pub HasInheritedProps : EntityModel → TypeId → EntityType → Type 0
HasInheritedProps model t type = type.props ≡ (option_map_or (props_of model) type.base [] ++ declared_props model t)

-- V9: the key of a type without a base: one to four properties that it declares, each once
pub record IsRootKey (model : EntityModel) (t : TypeId) (key : List PropId) : Type 0 where
  pub some : key ≢ []
  pub few : length key ≤ 4
  pub once : AreApart key
  pub own : All (Contains (declared_props model t)) key

-- a type's key is that of its base type, or a key that it declares itself where it has no base
abbrev pub HasInheritedKey : EntityModel → TypeId → EntityType → Type 0
HasInheritedKey model t type = MatchOption type.base (IsRootKey model t type.key) (λ base. type.key ≡ key_props model base)

-- V10: a property of a key is a whole number or a text, and may not be null
pub record IsKeyProp (model : EntityModel) (prop : PropId) : Type 0 where
  pub declared : Prop
  pub is_declared : At model.props prop.index declared
  pub kind : IsKeyKind declared.kind
  pub needed : declared.nullable ≡ false
