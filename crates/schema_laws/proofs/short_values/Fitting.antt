-- Which properties take each short value.
use Rattle.std.proofs.Common.{Contains, subst}
use Rattle.emc_base.proofs.Lists.{at_once}
use Rattle.round_trip.specs.Words.{PropId, TypeId, EntityModel, Prop, At, key_props}
use Rattle.round_trip.specs.soundness.models.Inheritance.{IsKeyProp}
use Rattle.round_trip.specs.soundness.models.Models.{IsSoundModel}
use Rattle.round_trip.specs.soundness.mappings.Joined.{IsDependent}
use Rattle.round_trip.specs.soundness.Kinds.{IsKeyKind}
use Rattle.schema_laws.specs.short_values.Short.{TakesShort}
use Rattle.schema_laws.proofs.short_values.Short.{fits_short}
use Rattle.schema_laws.proofs.sound_types.Dependent.{dependent_is, sound_kind}
use Rattle.schema_laws.proofs.sound_types.Inherited.{key_prop}

module _ (model : EntityModel) (sound : IsSoundModel model) where
  -- a part of a key is of a kind of keys
  pub key_kind : (t : TypeId) (p : PropId) → Contains (key_props model t) p → (declared : Prop) → At model.props p.index declared → IsKeyKind declared.kind
  key_kind t p has declared here =
      let key : IsKeyProp model p = key_prop model sound p t has in
      let P : Prop → Type 0 = λ one. IsKeyKind one.kind in
      subst P (at_once model.props p.index key.declared declared key.is_declared here) key.kind

  pub key_takes : (t : TypeId) (p : PropId) → Contains (key_props model t) p → TakesShort model p
  key_takes t p has declared here short is_short of_sort =
      fits_short declared.kind (key_kind t p has declared here) (sound_kind model sound p declared here) short is_short of_sort

  pub dependent_takes : (p : PropId) → IsDependent model p → TakesShort model p
  dependent_takes p by declared here short is_short of_sort =
      fits_short declared.kind (dependent_is model sound p by declared here) (sound_kind model sound p declared here) short is_short of_sort
