-- What a document without faults of shape holds is of the model: its entities, its links, and the state.
use Rattle.std.proofs.Common.{◌≡◌, inl, inr, ℕ, List, [], ◌∷◌, All, length, map, get_or, unwrap_or, true≢false, Option, Some, None, IsSome, slice_get, refl, sym, ap, subst, ◌∙◌}
use Rattle.std.specs.Prelude.{option_map, option_and_then, if◌then◌else◌, is_none}
use Rattle.std.specs.Option.{is_some, option_map_or}
use Rattle.std.specs.List.{enumerate_from}
use Rattle.std.specs.Str.{bytes_eq}
use Rattle.std.proofs.Math.ListN.{length-map}
use Rattle.std.proofs.lemmas.List.Elements.{All-map, All-nil}
use Rattle.std.proofs.lemmas.List.FromFn.{length-enumerate_from}
use Rattle.std.proofs.lemmas.Option.{get_or_from_slice_get, slice_get-map}
use Rattle.std.proofs.lemmas.Slice.Eq.{bytes_eq-Decides}
use Rattle.serde_json.specs.Data.{Data, Members}
use Rattle.serde_json.specs.Find.{as_object, get}
use Rattle.emc_base.specs.Lists.{At}
use Rattle.emc_base.proofs.Lists.{item_at}
use Rattle.emc_base.proofs.facts.Found.{position_passes}
use Rattle.json_form.specs.TreeParts.{items_in}
use Rattle.json_form.proofs.MemberByName.{member_found}
use Rattle.json_form.specs.from_nodes.Reading.{items_at, object_at, optional_text_at}
use Rattle.groupings.specs.name_places.GivenNames.{first_place}
use Rattle.groupings.proofs.name_places.Positions.{position_none}
use Rattle.round_trip.specs.Words.{EntityModel, EntityType, EntitySet, Assoc, Constraint, Link, TypeId, SetId, AssocId, key_props, props_of, entities_in, links_in, IsEntity, IsIndependent, IsLink, IsState}
use Rattle.edm_types.specs.Forest.{type_numbered}
use Rattle.schema_names.specs.SchemaNames.{local_name, set_named, type_named}
use Rattle.data_documents.specs.declared.shape_faults.place.ShapeStep.{ShapeStep}
use Rattle.data_documents.specs.declared.shape_faults.place.ShapeStep.TheVariants.{Item, Member, Missing}
use Rattle.data_documents.specs.entity_documents.Names.{if_independent, independent_named, type_in, type_member}
use Rattle.data_documents.specs.entity_documents.Shapes.{IsEntityFault, IsFaultBy, IsUntypedFault}
use Rattle.data_documents.specs.entity_documents.DocShapes.{IsDocFault, IsSetFault}
use Rattle.data_documents.specs.entity_documents.States.{entities_of, entity_in, entity_of, key_in, link_in, links_of, part_at, state_in, value_at}

-- an object that tells no type has a fault
untyped : (d : Data) → ((place : List ShapeStep) → ¬ IsUntypedFault d place) → ⊥
untyped d none = by (as_object d) refl (get type_member d) refl
  where
    by : (object : Option Members) → as_object d ≡ object → (found : Option Data) → get type_member d ≡ found → ⊥
    by None none_such found is = none [] (inl (inl ((λ some. let no : IsSome {T = Members} None = subst IsSome none_such some in absurd cc), refl)))
    by (Some object) has None is = none (Missing 0 type_member ∷ []) (inr (record { object = ap is_some has; absent = is; here = refl }))
    by (Some object) has (Some part) is =
        let member = member_found d type_member part is in
        none (Member type_member ∷ [])
        (inl (inr (record { i = member.0; item = (type_member, part); here = member.1; holds = record { rest = []; reached = refl; holds = (refl, refl) } })))

-- the type that is named is one of the model
module _ (model : EntityModel) (ty : TypeId) where
  in_place : (name : List ℕ) (place : Option ℕ) → first_place (λ type. type.name) model.types name ≡ place → option_map type_numbered place ≡ Some ty
      → (type : EntityType) × At model.types ty.index type
  in_place name None at is = absurd cc
  in_place name (Some place) at is =
      let here = position_passes (λ type. bytes_eq name type.name) model.types place at in
      let same : type_numbered place ≡ ty = cc in
      (here.0, subst (λ (t : TypeId). At model.types t.index here.0) same here.1)

  in_name : (name : Option (List ℕ)) → option_map type_numbered (option_and_then (first_place (λ type. type.name) model.types) name) ≡ Some ty
      → (type : EntityType) × At model.types ty.index type
  in_name None is = absurd cc
  in_name (Some name) is = in_place name (first_place (λ type. type.name) model.types name) refl is

  pub of_model : (text : Option (List ℕ)) → option_map type_numbered (option_and_then (type_named model) text) ≡ Some ty → (type : EntityType) × At model.types ty.index type
  of_model None is = absurd cc
  of_model (Some text) is = in_name (local_name model text) is

-- an entity of a type of the model has a value for each property
of_type : (model : EntityModel) (ty : TypeId) (d : Data) (type : EntityType) → At model.types ty.index type → IsEntity model (entity_of model ty d)
of_type model ty d type here =
    (type, here, length-map (props_of model ty) (value_at model d) ∙ ap (λ (found : Option EntityType). length (option_map_or (λ (t : EntityType). t.props) found [])) here)

-- where nothing is wrong with an object, it holds an entity of the model
pub entity_fits : (model : EntityModel) (d : Data) → ((place : List ShapeStep) → ¬ IsEntityFault model d place) → IsEntity model (entity_in model d)
entity_fits model d none = by (type_in model d) refl none
  where
    by : (found : Option TypeId) → type_in model d ≡ found → ((place : List ShapeStep) → ¬ IsFaultBy model found d place) → IsEntity model (entity_in model d)
    by None is none = absurd (untyped d none)
    by (Some ty) is none =
        let type = of_model model ty (optional_text_at type_member d) is in
        subst (λ (t : Option TypeId). IsEntity model (entity_of model (unwrap_or t (type_numbered 0)) d)) (sym is) (of_type model ty d type.0 type.1)

-- a key has a value for each property
pub key_fits : (model : EntityModel) (ty : TypeId) (d : Data) → length (key_in model ty d) ≡ length (key_props model ty)
key_fits model ty d = length-map (enumerate_from 0 (key_props model ty)) (part_at model d) ∙ length-enumerate_from 0 (key_props model ty)

-- a link of an independent association is one
pub link_fits : (model : EntityModel) (assoc : Assoc) (d : Data) → IsIndependent assoc → IsLink model assoc (link_in model assoc d)
link_fits model assoc d is = record {
  independent = is;
  first = key_fits model assoc.first.ty (object_at assoc.first.role d);
  second = key_fits model assoc.second.ty (object_at assoc.second.role d);
}

-- what is found as independent is so
pub is_found_independent : (found : Option Assoc) (assoc : Assoc) → option_and_then if_independent found ≡ Some assoc → IsIndependent assoc
is_found_independent None assoc is = absurd cc
is_found_independent (Some one) assoc is = by one.constraint refl is
  where
    by : (constraint : Option Constraint) → one.constraint ≡ constraint → (if is_none constraint then Some one else None) ≡ Some assoc → IsIndependent assoc
    by None free is = let same : one ≡ assoc = cc in subst IsIndependent same free
    by (Some constraint) bound is = absurd cc

-- a set of the model is found by its name
set_found : (model : EntityModel) (i : ℕ) (set : EntitySet) → At model.sets i set → (place : ℕ) × (set_named model set.name ≡ Some place)
set_found model i set here = by (set_named model set.name) refl
  where
    by : (found : Option ℕ) → set_named model set.name ≡ found → (place : ℕ) × (set_named model set.name ≡ Some place)
    by (Some place) is = (place, is)
    by None is = absurd (true≢false (sym ((bytes_eq-Decides set.name set.name).1 refl) ∙ position_none (λ other. bytes_eq set.name other.name) model.sets i set is here))

module _ (model : EntityModel) (d : Data) (none : (place : List ShapeStep) → ¬ IsDocFault model d place) where
  -- nothing is wrong with an item of a set's member
  item_good : (i : ℕ) (set : EntitySet) → At model.sets i set → (part : Data) → get set.name d ≡ Some part → (k : ℕ) (item : Data) → At (items_in part) k item
      → (place : List ShapeStep) → ¬ IsEntityFault model item place
  item_good i set here part is k item there place fault =
      let found = set_found model i set here in
      let member = member_found d set.name part is in
      let P : Option ℕ → Type 0 = λ one. IsSetFault model one (independent_named model set.name) part (Item k ∷ place) in
      none (Member set.name ∷ Item k ∷ place)
      (inr (record {
        i = member.0;
        item = (set.name, part);
        here = member.1;
        holds = record {
          rest = Item k ∷ place;
          reached = refl;
          holds = subst P (sym found.1) (inr (record { i = k; item = item; here = there; holds = record { rest = place; reached = refl; holds = fault } }));
        };
      }))

  each_item : (i : ℕ) (set : EntitySet) → At model.sets i set → (found : Option Data) → get set.name d ≡ found
      → All (λ item. IsEntity model (entity_in model item)) (option_map_or items_in found [])
  each_item i set here None is = All-nil (λ item. IsEntity model (entity_in model item))
  each_item i set here (Some part) is = λ k other within.
      let item = item_at (items_in part) k within in
      let same : item.0 ≡ get_or (items_in part) k other = sym (get_or_from_slice_get (items_in part) k item.0 other item.1) in
      subst (λ (one : Data). IsEntity model (entity_in model one)) same (entity_fits model item.0 (item_good i set here part is k item.0 item.1))

  each_set : (set : SetId) → All (IsEntity model) (entities_in (state_in model d) set)
  each_set id = subst (λ found. All (IsEntity model) (unwrap_or found [])) (sym (slice_get-map (entities_of model d) model.sets id.index)) (by (slice_get model.sets id.index) refl)
    where
      by : (found : Option EntitySet) → slice_get model.sets id.index ≡ found → All (IsEntity model) (unwrap_or (option_map (entities_of model d) found) [])
      by None is = All-nil (IsEntity model)
      by (Some set) is = All-map (IsEntity model) (entity_in model) (items_at set.name d) (each_item id.index set is (get set.name d) refl)

  each_assoc : (a : AssocId) (assoc : Assoc) → At model.assocs a.index assoc → All (IsLink model assoc) (links_in (state_in model d) a)
  each_assoc a assoc here =
      let P : Option (List Link) → Type 0 = λ found. All (IsLink model assoc) (unwrap_or found []) in
      subst P (sym (slice_get-map (links_of model d) model.assocs a.index ∙ ap (option_map (links_of model d)) here)) (by assoc.constraint refl)
    where
      by : (constraint : Option Constraint) → assoc.constraint ≡ constraint
          → All (IsLink model assoc) (if is_none constraint then map (link_in model assoc) (items_at assoc.set_name d) else [])
      by None is = All-map (IsLink model assoc) (link_in model assoc) (items_at assoc.set_name d) (λ k item within. link_fits model assoc _ is)
      by (Some constraint) is = All-nil (IsLink model assoc)

  -- where nothing is wrong with a document, it holds a state of the model
  pub state_fits : IsState model (state_in model d)
  state_fits = record {
    sets = length-map model.sets (entities_of model d);
    assocs = length-map model.assocs (links_of model d);
    entities = each_set;
    links = each_assoc;
  }
