-- The entities and the links of a legal state, whose trees give them.
use Rattle.std.proofs.Common.{◌≡◌, ℕ, zero, suc, List, [], ◌∷◌, length, map, All, Contains, IsPermutation, unwrap_or, slice_get, sym, ap, subst, ◌∙◌}
use Rattle.std.specs.List.{AllZip}
use Rattle.std.specs.Option.{option_map_or}
use Rattle.std.specs.declared.cmp.Ordering.{Ordering}
use Rattle.std.proofs.lemmas.List.Elements.{All-contains}
use Rattle.std.proofs.lemmas.List.Sorted.{IsPermutation-refl}
use Rattle.emc_base.specs.Lists.{At}
use Rattle.emc_base.proofs.FoundItems.{member_of}
use Rattle.emc_base.proofs.Lists.{item_at}
use Rattle.round_trip.specs.Words.{AssocId, SetId, EntityModel, EntitySet, EntityType, Assoc, End, Entity, Prop, PropId, State, Value, HasEntityAt, HasValuesInDomain, IsA, IsEntity, IsLegal, IsSameState, entities_in, key_of, key_props, links_in, props_of, value_of}
use Rattle.round_trip.specs.soundness.Kinds.{IsSoundKind}
use Rattle.round_trip.specs.soundness.models.ModelIds.{HasEndIds, IsPropId, IsSetId}
use Rattle.round_trip.specs.soundness.models.Models.{IsSoundModel}
use Rattle.round_trip.proofs.Lookups.{inherited_key}
use Rattle.schema_laws.proofs.sound_types.Inherited.{key_among}
use Rattle.entity_state.specs.InOrder.{IsInOrderOf, IsSortedState, entity_cmp, link_cmp}
use Rattle.data_documents.proofs.printed.Lists.{all_at}
use Rattle.data_documents.proofs.printed.Values.{good_value}
use Rattle.data_documents.proofs.printed.entities.Entities.{IsGoodEntity}
use Rattle.data_documents.proofs.printed.entities.Keys.{IsGoodKey}
use Rattle.data_documents.proofs.printed.entities.Links.{IsGoodLink}

-- the list at a place among sorted ones has the items of the one at this place among the others
same_items : {X : Type 0} (cmp : X → X → Ordering) (lists sorted : List (List X)) → AllZip (IsInOrderOf cmp) lists sorted → (i : ℕ)
    → IsPermutation (unwrap_or (slice_get lists i) []) (unwrap_or (slice_get sorted i) [])
same_items cmp [] [] order i = IsPermutation-refl []
same_items cmp [] (list ∷ sorted) order i = absurd order
same_items cmp (list ∷ lists) [] order i = absurd order
same_items cmp (list ∷ lists) (other ∷ sorted) order zero = order.0.same
same_items cmp (list ∷ lists) (other ∷ sorted) order (suc i) = same_items cmp lists sorted order.1 i

-- a state in the order of keys is the same state
pub same_sorted : (model : EntityModel) (state sorted : State) → IsSortedState model state sorted → IsSameState state sorted
same_sorted model state sorted order = record {
  entities = λ set. same_items (entity_cmp model) state.entities sorted.entities order.entities set.index;
  links = λ assoc. same_items link_cmp state.links sorted.links order.links assoc.index;
}

-- a list for each set and each association set, of entities and links whose trees give them
pub record AreGoodLists (model : EntityModel) (state : State) : Type 0 where
  pub sets : length state.entities ≡ length model.sets
  pub assocs : length state.links ≡ length model.assocs
  pub entities : (id : SetId) (set : EntitySet) → At model.sets id.index set → All (IsGoodEntity model) (entities_in state id)
  pub links : (id : AssocId) (assoc : Assoc) → At model.assocs id.index assoc → All (IsGoodLink model assoc) (links_in state id)

module _ (model : EntityModel) (sound : IsSoundModel model) where
  -- an entity whose values are null or in their domains
  good_entity : (entity : Entity) → IsEntity model entity → HasValuesInDomain model entity → IsGoodEntity model entity
  good_entity entity (type, here, long) domains =
      let list : props_of model entity.ty ≡ type.props = ap (λ found. option_map_or (λ (t : EntityType). t.props) found []) here in
      let inside : All (IsPropId model) type.props = all_at (λ (each : EntityType). All (IsPropId model) each.props) model.types entity.ty.index type sound.ids.props here in
      record {
        type = type;
        is_type = here;
        each = long ∙ ap length (sym list);
        values = λ prop has.
            let within : IsPropId model prop = All-contains (IsPropId model) type.props prop inside (subst (λ (props : List PropId). Contains props prop) list has) in
            let declared = item_at model.props prop.index within in
            let kind : IsSoundKind declared.0.kind = all_at (λ (p : Prop). IsSoundKind p.kind) model.props prop.index declared.0 sound.kinds declared.1 in
            record {
              declared = declared.0;
              is_declared = declared.1;
              good = good_value declared.0.kind kind (value_of model entity prop) (domains prop declared.0 (record { among = has; is_declared = declared.1 }));
            };
      }

  module _ (state : State) (legal : IsLegal model state) where
    -- the entities of a set
    good_entities : (id : SetId) (set : EntitySet) → At model.sets id.index set → All (IsGoodEntity model) (entities_in state id)
    good_entities id set here k entity within = good_entity _ (legal.shape.entities id k entity within) ((legal.sets id set here).domains k entity within)

    -- the key at an end is that of an entity there, whose type has the key of the end's type
    good_key : (end : End) → IsSetId model end.set → (key : List Value) → HasEntityAt model state end key → IsGoodKey model end.ty key
    good_key end inside key at =
        let found = member_of (λ (entity : Entity). IsA model entity.ty end.ty × (key_of model entity ≡ key)) (entities_in state end.set) at in
        let entity : Entity = found.0 in
        let set = item_at model.sets end.set.index inside in
        let good : IsGoodEntity model entity = All-contains (IsGoodEntity model) (entities_in state end.set) entity (good_entities end.set set.0 set.1) found.1 in
        let keys : key_props model entity.ty ≡ key_props model end.ty = inherited_key model sound entity.ty end.ty found.2.0 in
        record {
          value = value_of model entity;
          is = sym found.2.1 ∙ ap (map (value_of model entity)) keys;
          values = λ prop has. good.values prop (key_among model sound prop entity.ty (subst (λ (props : List PropId). Contains props prop) (sym keys) has));
        }

    -- the links of an association set, which it has only where it is independent
    good_links : (id : AssocId) (assoc : Assoc) → At model.assocs id.index assoc → All (IsGoodLink model assoc) (links_in state id)
    good_links id assoc here k link within =
        let is = legal.shape.links id assoc here k link within in
        let ends = (legal.links id assoc here is.independent).ends k link within in
        let ids = all_at (λ (each : Assoc). HasEndIds model each.first × HasEndIds model each.second) model.assocs id.index assoc sound.ids.ends here in
        record { independent = is.independent; first = good_key assoc.first ids.0.0 _ ends.0; second = good_key assoc.second ids.1.0 _ ends.1 }

    -- so in all of a legal state
    pub good_lists : AreGoodLists model state
    good_lists = record { sets = legal.shape.sets; assocs = legal.shape.assocs; entities = good_entities; links = good_links }
