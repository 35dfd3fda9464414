-- Nothing is wrong with the shape of an entity's tree, and each part of it is told.
use Rattle.std.proofs.Common.{◌≡◌, ◌-◌, ◌<◌, inl, inr, ℕ, suc, List, [], ◌∷◌, map, zip, All, Contains, IsUtf8, codes, Option, Some, option_and_then, slice_get, refl, sym, ap, subst, ◌∙◌, arith}
use Rattle.std.specs.Option.{option_map_or}
use Rattle.std.proofs.lemmas.List.Elements.{All-cons, All-map, Contains-append_right}
use Rattle.std.proofs.lemmas.Option.{none-some}
use Rattle.std.proofs.lemmas.Simd.{map-map}
use Rattle.std.proofs.lemmas.Str.{IsUtf8-append}
use Rattle.json.proofs.Printed.Utf8.{IsUtf8-are_ascii}
use Rattle.serde_json.specs.Data.{Data, string}
use Rattle.emc_base.specs.Lists.{AreApart, At}
use Rattle.emc_base.proofs.Lists.{all_from_members}
use Rattle.emc_base.proofs.Mapped.{contains_at, contains_map}
use Rattle.std.proofs.lemmas.Option.{slice_get-get_or}
use Rattle.json_form.specs.Trees.{object_of, value_tree}
use Rattle.json_form.proofs.Told.{told, told_only}
use Rattle.groupings.specs.name_places.GivenNames.{first_place}
use Rattle.round_trip.specs.Words.{EntityModel, EntityType, Entity, Prop, PropId, TypeId, props_of, value_of, type_at}
use Rattle.entity_state.specs.StateTree.{entity_tree, full_name, name_of, named_value}
use Rattle.entity_state.specs.Tells.{HasApartNames, TellsEntity, entity_names}
use Rattle.data_documents.specs.declared.shape_faults.place.ShapeStep.{ShapeStep}
use Rattle.data_documents.specs.entity_documents.Names.{prop_named}
use Rattle.data_documents.specs.entity_documents.Shapes.{IsEntityFault, IsFaultBy, IsMemberFault, IsTypedFault, IsValueFault}
use Rattle.data_documents.specs.printed.Names.{HasTextModelNames}
use Rattle.data_documents.proofs.printed.Entries.{IsWholeEntry, object_good, object_whole}
use Rattle.data_documents.proofs.printed.Lists.{all_at, named_at}
use Rattle.data_documents.proofs.printed.entities.Beside.{values_beside, zip_images}
use Rattle.data_documents.proofs.printed.entities.Entities.{IsGoodEntity, given_for, type_back}
use Rattle.data_documents.proofs.printed.spelled.Whole.{IsWhole}

module _ (model : EntityModel) (apart : HasApartNames model) (entity : Entity) (good : IsGoodEntity model entity) (once : AreApart (props_of model entity.ty)) where
  abbrev props : List PropId
  props = props_of model entity.ty

  -- a property's name and the entity's value of it
  abbrev told_value : PropId → List ℕ × Data
  told_value prop = named_value model (prop, value_of model entity prop)

  abbrev first : List ℕ × Data
  first = (codes "$type", string (full_name model entity.ty))

  abbrev entries : List (List ℕ × Data)
  entries = first ∷ map told_value props

  tree_is : entity_tree model entity ≡ object_of entries
  tree_is =
      let values : entity.values ≡ map (value_of model entity) props = sym (values_beside props entity.values once good.each) in
      let zipped : zip props entity.values ≡ map (λ prop. (prop, value_of model entity prop)) props = ap (zip props) values ∙ zip_images (value_of model entity) props in
      ap (λ beside. object_of (first ∷ map (named_value model) beside)) zipped
      ∙ ap (λ named. object_of (first ∷ named)) (map-map (named_value model) (λ prop. (prop, value_of model entity prop)) props)

  names_are : map (λ (entry : List ℕ × Data). entry.0) entries ≡ entity_names model entity.ty
  names_are = ap (λ names. codes "$type" ∷ names) (map-map (λ (entry : List ℕ × Data). entry.0) told_value props)

  tells_object : TellsEntity model entity (object_of entries)
  tells_object = record {
    type = told entries (entity_names model entity.ty) names_are (apart.props entity.ty) first (0, omega arith, refl);
    values = λ prop has. told entries (entity_names model entity.ty) names_are (apart.props entity.ty) (told_value prop)
        (Contains-append_right (first ∷ []) (map told_value props) (told_value prop) (contains_map told_value props prop has));
    only = told_only entries (entity_names model entity.ty) names_are;
  }

  names_apart : AreApart (map (name_of model) props)
  names_apart = λ i j d below within. apart.props entity.ty (suc i) (suc j) d (omega arith) (omega arith)

  -- a property of the type is found by its name
  found_prop : (i : ℕ) (prop : PropId) → At props i prop → prop_named model entity.ty (name_of model prop) ≡ Some prop
  found_prop i prop here =
      let place : option_and_then (λ (type : EntityType). first_place (name_of model) type.props (name_of model prop)) (type_at model entity.ty) ≡ first_place (name_of model) good.type.props (name_of model prop) =
      ap (option_and_then (λ (type : EntityType). first_place (name_of model) type.props (name_of model prop))) good.is_type in
      let list : props ≡ good.type.props = ap (λ found. option_map_or (λ (type : EntityType). type.props) found []) good.is_type in
      ap (option_and_then (slice_get props)) (place ∙ ap (λ own. first_place (name_of model) own (name_of model prop)) (sym list)) ∙ named_at (name_of model) props i prop names_apart here

  abbrev IsGoodMember : List ℕ × Data → Type 0
  IsGoodMember entry = (place : List ShapeStep) → ¬ IsMemberFault model entity.ty entry.0 entry.1 place

  good_prop : (prop : PropId) → Contains props prop → IsGoodMember (told_value prop)
  good_prop prop has place fault =
      let value = good.values prop has in
      let P : Option PropId → Type 0 = λ found. IsValueFault model found (value_tree (value_of model entity prop)) place in
      let wrong = subst P (found_prop has.0 prop (slice_get-get_or props has.0 prop has.1 ∙ ap Some has.2)) fault.1 in
      absurd (none-some (value_of model entity prop) (sym wrong.0 ∙ given_for model prop (value_of model entity prop) value (value_tree (value_of model entity prop)) value.good.back))

  good_members : All IsGoodMember entries
  good_members = All-cons IsGoodMember first (map told_value props) (λ place fault. absurd (fault.0 refl))
      (All-map IsGoodMember told_value props (all_from_members (λ prop. IsGoodMember (told_value prop)) props good_prop))

  typed : (place : List ShapeStep) → ¬ IsTypedFault model entity.ty (object_of entries) place
  typed place (inl inside) = object_good (IsMemberFault model entity.ty) entries good_members place inside
  typed place (inr lack) = absurd (none-some _ (sym lack.holds.absent ∙ tells_object.values lack.item (contains_at props lack.i lack.item lack.here)))

  pub good_entity : AreApart (map (λ type. type.name) model.types) → (place : List ShapeStep) → ¬ IsEntityFault model (entity_tree model entity) place
  good_entity types_apart place fault =
      let at_object : IsEntityFault model (object_of entries) place = subst (λ (d : Data). IsEntityFault model d place) tree_is fault in
      let P : Option TypeId → Type 0 = λ found. IsFaultBy model found (object_of entries) place in
      typed place (subst P (type_back model types_apart entity good once (object_of entries) tells_object) at_object)

  pub entity_whole : HasTextModelNames model → (n : ℕ) → 0 < n → IsWhole n (entity_tree model entity)
  entity_whole texts n some =
      let type_text : IsUtf8 (option_map_or (λ (type : EntityType). type.name) (type_at model entity.ty) []) =
      subst (λ (found : Option EntityType). IsUtf8 (option_map_or (λ (type : EntityType). type.name) found [])) (sym good.is_type)
      (all_at (λ (type : EntityType). IsUtf8 type.name) model.types entity.ty.index good.type texts.types good.is_type) in
      let dotted = IsUtf8-append (46 ∷ []) _ (IsUtf8-are_ascii (46 ∷ []) refl) type_text in
      let full : IsUtf8 (full_name model entity.ty) = IsUtf8-append model.namespace _ texts.namespace dotted in
      let each : (prop : PropId) → Contains props prop → IsWholeEntry (n - 1) (told_value prop) = λ prop has.
      let value = good.values prop has in
      let name : IsUtf8 (name_of model prop) =
      subst (λ (found : Option Prop). IsUtf8 (option_map_or (λ (declared : Prop). declared.name) found [])) (sym value.is_declared)
      (all_at (λ (declared : Prop). IsUtf8 declared.name) model.props prop.index value.declared texts.props value.is_declared) in
      (name, value.good.whole (n - 1)) in
      subst (IsWhole n) (sym tree_is)
      (object_whole n entries some
      (All-cons (IsWholeEntry (n - 1)) first (map told_value props) (IsUtf8-are_ascii (codes "$type") refl, full)
      (All-map (IsWholeEntry (n - 1)) told_value props (all_from_members (λ prop. IsWholeEntry (n - 1) (told_value prop)) props each))))
