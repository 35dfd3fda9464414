-- Sets in which nothing breaks a rule are legal.
use Rattle.std.proofs.Common.{◌≡◌, ◌≢◌, ◌⊎◌, inl, inr, ℕ, ◌<◌, List, [], ◌∷◌, length, get_or, Option, Some, None, Bool, true, false, AllPairs, IsTrue, slice_get, refl, sym, ap, subst, ◌∙◌, arith}
use Rattle.std.specs.Prelude.{codes}
use Rattle.std.proofs.lemmas.Option.{none-some, slice_get-get_or}
use Rattle.emc_base.specs.Lists.{At}
use Rattle.emc_base.proofs.Lists.{at_once}
use Rattle.round_trip.specs.Words.{EntityModel, EntitySet, EntityType, Entity, Prop, PropId, TypeId, Value, Null, State, place_at, entities_in, key_of, props_of, value_of, HasAllowedNulls, HasFittingType, HasProp, HasValuesInDomain, InDomain, IsA, IsConcrete, IsLegalSet}
use Rattle.round_trip.specs.legality.Breaches.{StandsAtProp}
use Rattle.round_trip.specs.soundness.models.Models.{IsSoundModel}
use Rattle.schema_laws.proofs.sound_types.Deciding.{derived_or_not}
use Rattle.entity_state.specs.declared.breach_order.found.Found.{Found}
use Rattle.entity_state.proofs.breach_order.Domains.{domain_decided}
use Rattle.entity_state.proofs.breach_order.SameValues.{null_or}
use Rattle.entity_state.proofs.breach_order.Turns.{all_at}
use Rattle.state_legality.specs.set_legality.Tells.{BreaksSets}
use Rattle.state_legality.proofs.set_legality.Beside.{place_in}

-- there may be entities of just this type, or there may not
concrete_or_not : (model : EntityModel) (t : TypeId) → IsConcrete model t ⊎ ¬ IsConcrete model t
concrete_or_not model t = by (slice_get model.types t.index) refl
  where
    told : (type : EntityType) → At model.types t.index type → (test : Bool) → type.is_abstract ≡ test → IsConcrete model t ⊎ ¬ IsConcrete model t
    told type here false is = inl (type, here, is)
    told type here true is = inr (λ some.
        let same : type ≡ some.0 = at_once model.types t.index type some.0 here some.1 in
        let both : true ≡ false = sym is ∙ ap (λ (one : EntityType). one.is_abstract) same ∙ some.2 in
        absurd cc)

    by : (found : Option EntityType) → slice_get model.types t.index ≡ found → IsConcrete model t ⊎ ¬ IsConcrete model t
    by None none = inr (λ some. none-some some.0 (sym none ∙ some.1))
    by (Some type) here = told type here type.is_abstract refl

module _ (model : EntityModel) (sound : IsSoundModel model) (state : State) (none : (found : Found) → ¬ BreaksSets model state found) (s : ℕ) (set : EntitySet) (here : At model.sets s set) where
  abbrev listed : List Entity
  listed = entities_in state (record { index = s })

  module _ (i : ℕ) (entity : Entity) (stands : At listed i entity) where
    typed : HasFittingType model set entity
    typed = by (concrete_or_not model entity.ty) (derived_or_not model set.element sound entity.ty)
      where
        strange : ¬ HasFittingType model set entity → ⊥
        strange not = none (record { rule = 1; spot = s ∷ i ∷ []; place = place_at set.name (key_of model entity) (codes "$type") })
            (inl (
              refl,
              record { s = s; i = i; set = set; entity = entity; stands = record { is_set = here; is_entity = stands }; spot_is = refl; place_is = refl; broken = not },
            ))

        by : IsConcrete model entity.ty ⊎ ¬ IsConcrete model entity.ty → IsA model entity.ty set.element ⊎ ¬ IsA model entity.ty set.element → HasFittingType model set entity
        by (inl concrete) (inl under) = record { concrete = concrete; under = under }
        by (inl concrete) (inr not) = absurd (strange (λ fits. not fits.under))
        by (inr not) under = absurd (strange (λ fits. not fits.concrete))

    module _ (prop : PropId) (declared : Prop) (has : HasProp model entity prop declared) where
      abbrev place : (j : ℕ) × At (props_of model entity.ty) j prop
      place = place_in (props_of model entity.ty) prop has.among

      at_prop : StandsAtProp model state (s ∷ i ∷ place.0 ∷ []) (place_at set.name (key_of model entity) declared.name) (value_of model entity prop) declared
      at_prop = record {
        s = s;
        i = i;
        j = place.0;
        set = set;
        entity = entity;
        prop = prop;
        stands = record { is_set = here; is_entity = stands };
        is_prop = place.1;
        is_declared = has.is_declared;
        value_is = refl;
        spot_is = refl;
        place_is = refl;
      }

      null_allowed : value_of model entity prop ≡ Null → IsTrue declared.nullable
      null_allowed null = by declared.nullable refl
        where
          At_prop : Value → Type 0
          At_prop value = StandsAtProp model state (s ∷ i ∷ place.0 ∷ []) (place_at set.name (key_of model entity) declared.name) value declared

          by : (may : Bool) → declared.nullable ≡ may → IsTrue declared.nullable
          by true is = is
          by false is = absurd (none (record { rule = 2; spot = s ∷ i ∷ place.0 ∷ []; place = place_at set.name (key_of model entity) declared.name })
              (inr (inl (refl, (declared, subst At_prop null at_prop, is)))))

      inside : (value_of model entity prop ≡ Null) ⊎ InDomain (value_of model entity prop) declared.kind
      inside = by (null_or (value_of model entity prop)) (domain_decided (value_of model entity prop) declared.kind)
        where
          by : (value_of model entity prop ≡ Null) ⊎ (value_of model entity prop ≢ Null)
              → InDomain (value_of model entity prop) declared.kind ⊎ ¬ InDomain (value_of model entity prop) declared.kind
              → (value_of model entity prop ≡ Null) ⊎ InDomain (value_of model entity prop) declared.kind
          by (inl null) domain = inl null
          by (inr value) (inl is) = inr is
          by (inr value) (inr outside) = absurd (none (record { rule = 3; spot = s ∷ i ∷ place.0 ∷ []; place = place_at set.name (key_of model entity) declared.name })
              (inr (inr (inl (refl, (value_of model entity prop, declared, at_prop, value, outside))))))

  keys_apart : AllPairs (λ one other. key_of model one ≢ key_of model other) listed
  keys_apart i j d before within same =
      let earlier : i < length listed = omega arith in
      let entity : Entity = get_or listed j d in
      none (record { rule = 4; spot = s ∷ j ∷ []; place = place_at set.name (key_of model entity) [] })
      (inr (inr (inr (
        refl,
        record {
          s = s;
          i = j;
          earlier = i;
          set = set;
          entity = entity;
          other = get_or listed i d;
          stands = record { is_set = here; is_entity = slice_get-get_or listed j d within };
          other_stands = record { is_set = here; is_entity = slice_get-get_or listed i d earlier };
          before = before;
          same = same;
          spot_is = refl;
          place_is = refl;
        },
      ))))

  pub legal_set : IsLegalSet model set listed
  legal_set = record {
    types = all_at (HasFittingType model set) listed typed;
    nulls = all_at (HasAllowedNulls model) listed null_allowed;
    domains = all_at (HasValuesInDomain model) listed inside;
    keys = keys_apart;
  }
