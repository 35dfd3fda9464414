-- When the types and properties of a model are sound, and when a document keeps the rules by which they are.
use Rattle.std.specs.Prelude.{map, All, MatchOption, ⊤}
use Rattle.layouts.specs.declared.fault.Fault.{Fault}
use Rattle.round_trip.specs.Words.{EntityModel, EntityType, TypeId, At}
use Rattle.round_trip.specs.soundness.models.Inheritance.{HasNoCircle}
use Rattle.round_trip.specs.soundness.Kinds.{IsSoundKind}
use Rattle.emc_base.specs.Lists.{AreApart}
use Rattle.round_trip.specs.soundness.models.ModelIds.{IsPropId, IsTypeId}
use Rattle.round_trip.specs.soundness.models.ModelNames.{HasDistinctMembers}
use Rattle.round_trip.specs.soundness.models.Models.{IsSoundType}
use Rattle.csdl_names.specs.declared.csdl_lists.raw.RawModel.{RawModel}
use Rattle.csdl_names.specs.Repeated.{IsRepeated}
use Rattle.csdl_names.specs.Unresolved.{IsUnresolved}
use Rattle.csdl_types.specs.TypeRules.{BreaksTypeRules}

-- the document breaks none of the rules V6 to V13
pub record KeepsTypeRules (raw : RawModel) : Type 0 where
  -- V6
  pub repeats_none : (fault : Fault) → ¬ IsRepeated raw fault
  -- V7
  pub resolves_all : (fault : Fault) → ¬ IsUnresolved raw fault
  -- V8 to V13
  pub keeps_types : (fault : Fault) → ¬ BreaksTypeRules raw fault

-- what IsSoundModel says of types and properties
pub record HasSoundTypes (model : EntityModel) : Type 0 where
  -- V8
  pub bases : HasNoCircle model
  -- properties V8; keys V7, V8, V9; properties of keys V10
  pub types : (t : TypeId) (type : EntityType) → At model.types t.index type → IsSoundType model t type
  -- V6
  pub names : AreApart (map (λ type. type.name) model.types)
  -- V6, V11
  pub members : (t : TypeId) (type : EntityType) → At model.types t.index type → HasDistinctMembers model t type
  -- V12, V13
  pub kinds : All (λ prop. IsSoundKind prop.kind) model.props
  -- these hold of each document
  pub base_ids : All (λ type. MatchOption type.base ⊤ (IsTypeId model)) model.types
  pub key_ids : All (λ type. All (IsPropId model) type.key) model.types
  pub prop_ids : All (λ type. All (IsPropId model) type.props) model.types
  pub owner_ids : All (λ prop. IsTypeId model prop.owner) model.props
