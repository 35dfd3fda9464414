-- What a climb from a type to its base types rests on, and a look at one property of a type.
-- Source: CSDL version 3, EntityType, BaseType and Property.
use Rattle.std.specs.Prelude.{ℕ, length, AllPairs, Option, option_map, slice_get}
use Rattle.std.specs.Option.{option_and_then}
use Rattle.round_trip.specs.Words.{EntityModel, EntityType, TypeId, At, props_of}
use Rattle.edm_types.specs.Forest.{type_numbered}
use Rattle.graphs.specs.base_chains.Chains.{IsAncestor, StaysWithin}
use Rattle.round_trip.specs.soundness.models.Inheritance.{HasInheritedProps}
use Rattle.schema_laws.specs.sound_types.PropNames.{HaveOtherNames}

-- the place of the base type of the type at a place
abbrev pub base_place : EntityModel → ℕ → Option ℕ
base_place model t = option_map (λ base. base.index) (option_and_then (λ type. type.base) (slice_get model.types t))

-- base types are types of the model, none stands above itself, and each type has the properties of its base type and its own, all under
-- different names
pub record InheritsProps (model : EntityModel) : Type 0 where
  pub within : StaysWithin (base_place model) (length model.types)
  pub rooted : (t : ℕ) → ¬ IsAncestor (base_place model) t t
  pub props : (t : ℕ) (type : EntityType) → At model.types t type → HasInheritedProps model (type_numbered t) type
  pub named : (t : TypeId) → AllPairs (HaveOtherNames model) (props_of model t)
