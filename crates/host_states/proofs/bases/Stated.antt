-- The key of an entity of a region is a stated one where its dependent parts are short.
use Rattle.std.proofs.Common.{◌≡◌, ⊎_elim, List, map, Contains, IsTrue, Bool, true, false, true≢false, refl, sym, ap, subst, ◌∙◌}
use Rattle.std.specs.List.{AllZip}
use Rattle.std.proofs.lemmas.List.Elements.{All-contains, All-contains_itself}
use Rattle.emc_base.proofs.Mapped.{all_zip-map}
use Rattle.round_trip.specs.Words.{SetId, PropId, TypeId, Value, Null, EntitySet, Entity, EntityModel, State, At, HasAllowedNulls, HasProp, HasValuesInDomain, InDomain, IsLegal, entities_in, key_of, key_props, value_beside, value_of}
use Rattle.round_trip.specs.soundness.models.Inheritance.{IsKeyProp}
use Rattle.round_trip.specs.soundness.mappings.Joined.{IsDependent}
use Rattle.schema_laws.specs.short_values.Short.{IsShort}
use Rattle.schema_laws.proofs.sound_types.Inherited.{key_among, key_prop}
use Rattle.schema_laws.proofs.state_demand.owners.Owners.{beside_map}
use Rattle.regions.specs.declared.region.Region.{Region}
use Rattle.regions.specs.Basis.{Basis}
use Rattle.regions.specs.region_laws.IsBasis.{IsBasis}
use Rattle.regions.specs.region_laws.Held.{HeldEntity}
use Rattle.population.proofs.plain.Placed.{set_there}
use Rattle.host_states.specs.BaseStates.{FitsProp, IsStatedKey}

module _ (basis : Basis) (is : IsBasis basis) (at : HeldEntity basis) where
  abbrev model : EntityModel
  model = basis.schema.model

  abbrev entity : Entity
  entity = at.entity

  same_type : entity.ty ≡ at.region.ty
  same_type = at.of_region.holds.typed

  -- each part of the key is in its domain
  fits_part : (p : PropId) → Contains (key_props model entity.ty) p → FitsProp model p (value_of model entity p)
  fits_part p part =
      let key : IsKeyProp model p = key_prop model is.sound.model p entity.ty part in
      let has : HasProp model entity p key.declared = record { among = key_among model is.sound.model p entity.ty part; is_declared = key.is_declared } in
      let set = set_there model at.state at.legal.shape at.s entity at.of_region.stands in
      let kept = at.legal.sets at.s set.0 set.1 in
      let nulls : HasAllowedNulls model entity = All-contains (HasAllowedNulls model) (entities_in at.state at.s) entity kept.nulls at.of_region.stands in
      let domains : HasValuesInDomain model entity = All-contains (HasValuesInDomain model) (entities_in at.state at.s) entity kept.domains at.of_region.stands in (
        key.declared,
        key.is_declared,
        ⊎_elim
            (λ (null : value_of model entity p ≡ Null). absurd (true≢false (sym (nulls p key.declared has null) ∙ key.needed)))
            (λ (inside : InDomain (value_of model entity p) key.declared.kind). inside)
            (domains p key.declared has),
      )

  pub key_stated : ((p : PropId) → Contains (key_props model at.region.ty) p → IsDependent model p → IsShort (value_of model at.entity p)) → IsStatedKey basis at.region (key_of model at.entity)
  key_stated short = record {
    fits = subst (λ t. AllZip (FitsProp model) (key_props model t) (key_of model entity)) same_type
        (all_zip-map (Contains (key_props model entity.ty)) (FitsProp model) (value_of model entity) fits_part (key_props model entity.ty) (All-contains_itself (key_props model entity.ty)));
    short = λ p part dependent.
        subst IsShort (sym (ap (λ t. value_beside p (key_props model t) (key_of model entity)) (sym same_type)
        ∙ beside_map (value_of model entity) (key_props model entity.ty) p (subst (λ t. Contains (key_props model t) p) (sym same_type) part))) (short p part dependent);
  }
