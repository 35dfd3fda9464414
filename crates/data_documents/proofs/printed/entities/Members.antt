-- The members of a state's tree: nothing is wrong with the shape of any, and each part of it is told.
use Rattle.std.proofs.Common.{◌≡◌, ◌-◌, ◌<◌, ℕ, List, ◌++◌, map, get_or, Contains, IsUtf8, Bool, true, if◌then◌else◌, Option, Some, None, option_and_then, ap, subst, ◌∙◌, arith}
use Rattle.std.proofs.lemmas.List.Elements.{All-append}
use Rattle.serde_json.specs.Data.{Data}
use Rattle.emc_base.specs.Lists.{AreApart, At}
use Rattle.emc_base.proofs.Mapped.{contains_at, contains_map}
use Rattle.emc_base.proofs.facts.Pairs.{apart_between}
use Rattle.json_form.specs.Trees.{array_of}
use Rattle.round_trip.specs.Words.{AssocId, SetId, EntityModel, EntitySet, Assoc, Entity, State, entities_in, links_in, props_of}
use Rattle.round_trip.specs.soundness.models.Models.{IsSoundModel}
use Rattle.schema_laws.proofs.sound_demand.owners.Pairing.{apart_first, apart_second}
use Rattle.schema_laws.proofs.sound_types.Once.{props_once}
use Rattle.schema_names.specs.SchemaNames.{set_named}
use Rattle.entity_state.specs.StateTree.{assoc_member, assoc_members, entity_tree, is_independent, link_tree, set_member, set_members, state_tree}
use Rattle.entity_state.specs.Tells.{HasApartNames}
use Rattle.data_documents.specs.declared.shape_faults.place.ShapeStep.{ShapeStep}
use Rattle.data_documents.specs.entity_documents.DocShapes.{AreLinksFault, IsDocFault, IsSetFault}
use Rattle.data_documents.specs.entity_documents.Names.{assoc_numbered, if_independent, independent_at, independent_named}
use Rattle.data_documents.specs.entity_documents.Shapes.{IsEntityFault, IsLinkFault}
use Rattle.data_documents.specs.printed.Names.{HasTextModelNames}
use Rattle.data_documents.proofs.printed.Entries.{IsWholeEntry, array_good, array_whole, object_good, object_whole}
use Rattle.data_documents.proofs.printed.Lists.{all_at, each_kept, each_numbered, named_nowhere, own_first}
use Rattle.data_documents.proofs.printed.entities.EntityShape.{entity_whole, good_entity}
use Rattle.data_documents.proofs.printed.entities.Legal.{AreGoodLists}
use Rattle.data_documents.proofs.printed.entities.Links.{good_link, link_whole}
use Rattle.data_documents.proofs.printed.spelled.Whole.{IsWhole}

module _ (model : EntityModel) (sound : IsSoundModel model) where
  abbrev set_names : List (List ℕ)
  set_names = map (λ set. set.name) model.sets

  abbrev assoc_names : List (List ℕ)
  assoc_names = map (λ assoc. assoc.set_name) model.assocs

  -- no two entity sets have one name
  sets_apart : AreApart set_names
  sets_apart = apart_first set_names assoc_names sound.names.sets

  -- no two association sets do
  assocs_apart : AreApart assoc_names
  assocs_apart = apart_second set_names assoc_names sound.names.sets

  -- an association set has the name of no entity set
  not_a_set : (i : ℕ) (assoc : Assoc) → At model.assocs i assoc → set_named model assoc.set_name ≡ None
  not_a_set i assoc here = named_nowhere (λ (set : EntitySet). set.name) model.sets assoc.set_name (λ k set there same.
      apart_between set_names assoc_names assoc.set_name sound.names.sets
      (subst (Contains set_names) same (contains_map (λ (one : EntitySet). one.name) model.sets set (contains_at model.sets k set there)))
      (contains_map (λ (one : Assoc). one.set_name) model.assocs assoc (contains_at model.assocs i assoc here)))

  -- and is found by its own, where it is independent
  assoc_found : (i : ℕ) (assoc : Assoc) → At model.assocs i assoc → is_independent assoc ≡ true → independent_named model assoc.set_name ≡ Some assoc
  assoc_found i assoc here independent =
      ap (option_and_then (λ place. independent_at model (assoc_numbered place))) (own_first (λ (one : Assoc). one.set_name) model.assocs i assoc assocs_apart here)
      ∙ ap (option_and_then if_independent) here
      ∙ ap (λ (b : Bool). if b then Some assoc else None) independent

  module _ (apart : HasApartNames model) (state : State) (good : AreGoodLists model state) where
    -- no property stands twice in an entity's type
    abbrev once : (entity : Entity) → AreApart (props_of model entity.ty)
    once entity = props_once model sound entity.ty

    abbrev IsGoodMember : List ℕ × Data → Type 0
    IsGoodMember entry = (place : List ShapeStep) → ¬ IsSetFault model (set_named model entry.0) (independent_named model entry.0) entry.1 place

    -- nothing is wrong with the member of an entity set
    good_set : (entry : ℕ × EntitySet) → At model.sets entry.0 entry.1 → IsGoodMember (set_member model state entry)
    good_set entry here place fault =
        let id : SetId = record { index = entry.0 } in
        let list = entities_in state id in
        let P : Option ℕ → Type 0 = λ found. IsSetFault model found (independent_named model entry.1.name) (array_of (map (entity_tree model) list)) place in
        array_good (entity_tree model) list (IsEntityFault model)
        (λ k entity within. good_entity model apart (get_or list k entity) (good.entities id entry.1 here k entity within) (once (get_or list k entity)) sound.names.types)
        place (subst P (own_first (λ (set : EntitySet). set.name) model.sets entry.0 entry.1 sets_apart here) fault)

    -- nor with that of an independent association set
    good_assoc : (entry : ℕ × Assoc) → At model.assocs entry.0 entry.1 → is_independent entry.1 ≡ true → IsGoodMember (assoc_member state entry)
    good_assoc entry here independent place fault =
        let id : AssocId = record { index = entry.0 } in
        let list = links_in state id in
        let trees = array_of (map (link_tree entry.1) list) in
        let P : Option ℕ → Type 0 = λ found. IsSetFault model found (independent_named model entry.1.set_name) trees place in
        let Q : Option Assoc → Type 0 = λ found. AreLinksFault model found trees place in
        array_good (link_tree entry.1) list (IsLinkFault model entry.1)
        (λ k link within. good_link model entry.1 (apart.roles id entry.1 here) (get_or list k link) (good.links id entry.1 here k link within))
        place (subst Q (assoc_found entry.0 entry.1 here independent) (subst P (not_a_set entry.0 entry.1 here) fault))

    -- nothing is wrong with the tree
    pub no_fault : (place : List ShapeStep) → ¬ IsDocFault model (state_tree model state) place
    no_fault =
        object_good (λ name. IsSetFault model (set_named model name) (independent_named model name)) (set_members model state ++ assoc_members model state)
        (All-append IsGoodMember (set_members model state) (assoc_members model state)
        (each_numbered IsGoodMember (set_member model state) model.sets good_set)
        (each_kept IsGoodMember (assoc_member state) model.assocs is_independent good_assoc))

    module _ (texts : HasTextModelNames model) (n : ℕ) (deep : 3 < n) where
      -- the member of an entity set is told part by part
      set_whole : (entry : ℕ × EntitySet) → At model.sets entry.0 entry.1 → IsWholeEntry (n - 1) (set_member model state entry)
      set_whole entry here =
          let id : SetId = record { index = entry.0 } in
          let list = entities_in state id in (
            all_at (λ (set : EntitySet). IsUtf8 set.name) model.sets entry.0 entry.1 texts.sets here,
            array_whole (entity_tree model) list (n - 1) (omega (arith, deep))
                (λ k entity within. entity_whole model apart (get_or list k entity) (good.entities id entry.1 here k entity within) (once (get_or list k entity))
                texts (n - 1 - 1) (omega (arith, deep))),
          )

      -- and that of an independent association set
      assoc_whole : (entry : ℕ × Assoc) → At model.assocs entry.0 entry.1 → is_independent entry.1 ≡ true → IsWholeEntry (n - 1) (assoc_member state entry)
      assoc_whole entry here independent =
          let id : AssocId = record { index = entry.0 } in
          let list = links_in state id in
          let roles = all_at (λ (each : Assoc). IsUtf8 each.first.role × IsUtf8 each.second.role) model.assocs entry.0 entry.1 texts.roles here in (
            all_at (λ (assoc : Assoc). IsUtf8 assoc.set_name) model.assocs entry.0 entry.1 texts.assocs here,
            array_whole (link_tree entry.1) list (n - 1) (omega (arith, deep))
                (λ k link within. link_whole model entry.1 (apart.roles id entry.1 here) (get_or list k link) (good.links id entry.1 here k link within)
                roles.0 roles.1 (n - 1 - 1) (omega (arith, deep))),
          )

      -- so is the tree
      pub tree_whole : IsWhole n (state_tree model state)
      tree_whole = object_whole n (set_members model state ++ assoc_members model state) (omega (arith, deep))
          (All-append (IsWholeEntry (n - 1)) (set_members model state) (assoc_members model state)
          (each_numbered (IsWholeEntry (n - 1)) (set_member model state) model.sets set_whole)
          (each_kept (IsWholeEntry (n - 1)) (assoc_member state) model.assocs is_independent assoc_whole))
