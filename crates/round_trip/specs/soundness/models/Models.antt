-- When an entity model is sound. What a CSDL document that breaks no rule means is sound.
-- Source: the rules of CSDL documents, read over the lists.
use Rattle.std.specs.Prelude.{All}
use Rattle.round_trip.specs.Words.{TypeId, EntityModel, EntityType, At}
use Rattle.round_trip.specs.soundness.Kinds.{IsSoundKind}
use Rattle.round_trip.specs.soundness.Lookups.{HasConcrete}
use Rattle.round_trip.specs.soundness.models.ModelIds.{HasModelIds}
use Rattle.round_trip.specs.soundness.models.ModelNames.{HasDistinctNames}
use Rattle.edm_types.specs.Forest.{IsForest}
use Rattle.round_trip.specs.soundness.models.Inheritance.{HasNoCircle, HasInheritedProps, HasInheritedKey, IsKeyProp}
use Rattle.round_trip.specs.soundness.models.Constraints.{IsSoundAssoc, HasNoCircleOfArrows}

-- a type's properties and key are those that its base type gives, and its own. V9, V10.
pub record IsSoundType (model : EntityModel) (t : TypeId) (type : EntityType) : Type 0 where
  pub props : HasInheritedProps model t type
  pub key : HasInheritedKey model t type
  pub key_props : All (IsKeyProp model) type.key

-- a model is sound
pub record IsSoundModel (model : EntityModel) : Type 0 where
  -- every id is in range
  pub ids : HasModelIds model
  -- V6, V11
  pub names : HasDistinctNames model
  -- V8
  pub bases : HasNoCircle model
  -- V9, V10
  pub types : (t : TypeId) (type : EntityType) → At model.types t.index type → IsSoundType model t type
  -- V12, V13
  pub kinds : All (λ prop. IsSoundKind prop.kind) model.props
  -- V14
  pub elements : All (λ set. HasConcrete model set.element) model.sets
  -- V14, V16 to V18, V20
  pub assocs : All (IsSoundAssoc model) model.assocs
  -- V19
  pub arrows : HasNoCircleOfArrows model
  -- the forest is that of the base types
  pub forest : IsForest model model.forest
