-- Facts on the entities of a model, by its properties and types.
use Rattle.std.proofs.Common.{◌≡◌, ◌≢◌, ℕ, ◌≤◌, List, [], ◌∷◌, None, refl, subst, arith}
use Rattle.std.specs.Prelude.{All}
use Rattle.std.specs.List.{AllByRecursion}
use Rattle.std.proofs.lemmas.List.Elements.{All-from_recursion, All-weaker}
use Rattle.round_trip.specs.Words.{TypeId, PropId, Value, EntityModel, EntityType, Prop, TypeNode, EntitySet, Assoc, Entity, At, HasBase, IsA, props_of, value_of, key_of, IsEntity, HasProp, HasFittingType, HasAllowedNulls, HasValuesInDomain, IsLegalSet}
use Rattle.edm_types.specs.IsA.{same, base, chain}
use Rattle.worked_examples.specs.Ids.{type_id, prop_id, set_of, entity_of, concrete_type, model_of}
use Rattle.worked_examples.proofs.facts.Small.{each_of, PairsByRecursion, all_pairs}
use Rattle.worked_examples.proofs.facts.Values.{FitsIn}

-- where each type stands after its base type, it stands after each type that it is derived from
pub IsA-after : (model : EntityModel) → ((t u : TypeId) → HasBase model t u → u.index ≤ t.index) → {t u : TypeId} → IsA model t u → u.index ≤ t.index
IsA-after model after (same t) = omega arith
IsA-after model after (base t u has) = after t u has
IsA-after model after (chain s t u below above) =
    let one : t.index ≤ s.index = IsA-after model after below in
    let two : u.index ≤ t.index = IsA-after model after above in omega arith

-- the property is declared, and the entity's value may stand in it
pub record FitsAt (model : EntityModel) (entity : Entity) (prop : PropId) : Type 0 where
  pub declared : Prop
  pub is_declared : At model.props prop.index declared
  pub fits : FitsIn declared.kind declared.nullable (value_of model entity prop)

module _ (model : EntityModel) (entity : Entity) (all : AllByRecursion (FitsAt model entity) (props_of model entity.ty)) where
  fits : (prop : PropId) (declared : Prop) → HasProp model entity prop declared → FitsIn declared.kind declared.nullable (value_of model entity prop)
  fits prop declared has =
      let here : FitsAt model entity prop = each_of (FitsAt model entity) (props_of model entity.ty) prop all has.among in
      let one : here.declared ≡ declared = cc (here.is_declared, has.is_declared) in
      subst (λ (d : Prop). FitsIn d.kind d.nullable (value_of model entity prop)) one here.fits

  pub nulls_fit : HasAllowedNulls model entity
  nulls_fit prop declared has = (fits prop declared has).null

  pub domains_fit : HasValuesInDomain model entity
  domains_fit prop declared has = (fits prop declared has).domain

-- an entity that may stand in the set
pub record MayStand (model : EntityModel) (set : EntitySet) (entity : Entity) : Type 0 where
  pub shape : IsEntity model entity
  pub type : HasFittingType model set entity
  pub fits : AllByRecursion (FitsAt model entity) (props_of model entity.ty)

-- an entity of a model's first type, which has no base type and just these two properties
module _ {name set_name : List ℕ} {key : List PropId} {types : List EntityType} {one two : Prop} {props : List Prop} {forest : List TypeNode}
    {sets : List EntitySet} {assocs : List Assoc} where
  pub two_values_stand : (first second : Value) → FitsIn one.kind one.nullable first → FitsIn two.kind two.nullable second
      → MayStand (model_of (concrete_type name None key (prop_id 0 ∷ prop_id 1 ∷ []) ∷ types) (one ∷ two ∷ props) forest sets assocs)
      (set_of set_name (type_id 0)) (entity_of (type_id 0) (first ∷ second ∷ []))
  two_values_stand first second first_fits second_fits = record {
    shape = (_, refl, refl);
    type = record { concrete = (_, refl, refl); under = same (type_id 0) };
    fits = (record { declared = one; is_declared = refl; fits = first_fits }, (record { declared = two; is_declared = refl; fits = second_fits }, tt));
  }

-- entities of different keys
abbrev pub HaveOwnKeys : EntityModel → Entity → Entity → Type 0
HaveOwnKeys model x y = key_of model x ≢ key_of model y

module _ (model : EntityModel) (set : EntitySet) (entities : List Entity) (each : AllByRecursion (MayStand model set) entities) where
  stand : All (MayStand model set) entities
  stand = All-from_recursion (MayStand model set) entities each

  pub shaped_set : All (IsEntity model) entities
  shaped_set = All-weaker (MayStand model set) (IsEntity model) (λ entity may. may.shape) entities stand

  pub legal_set : PairsByRecursion (HaveOwnKeys model) entities → IsLegalSet model set entities
  legal_set own = record {
    types = All-weaker (MayStand model set) (HasFittingType model set) (λ entity may. may.type) entities stand;
    nulls = All-weaker (MayStand model set) (HasAllowedNulls model) (λ entity may. nulls_fit model entity may.fits) entities stand;
    domains = All-weaker (MayStand model set) (HasValuesInDomain model) (λ entity may. domains_fit model entity may.fits) entities stand;
    keys = all_pairs (HaveOwnKeys model) entities own;
  }
