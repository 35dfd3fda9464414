-- The ends of an association set that the document means: their types and sets are found, and are sound. V14, V15, V20.
use Rattle.std.proofs.Common.{◌≡◌, ℕ, ◌<◌, List, length, map, Contains, Option, Some, sym, ap, subst, ◌∙◌}
use Rattle.std.specs.Option.{MatchOption, option_and_then, unwrap_or}
use Rattle.std.proofs.lemmas.Option.{same_Some, slice_get_within}
use Rattle.std.proofs.lemmas.List.Elements.{All-contains}
use Rattle.emc_base.specs.Lists.{At}
use Rattle.emc_base.proofs.Lists.{item_at}
use Rattle.emc_base.proofs.Mapped.{contains_at, contains_map}
use Rattle.edm_types.specs.Forest.{type_numbered}
use Rattle.round_trip.specs.Words.{Assoc, IsA, SetId, TypeId}
use Rattle.round_trip.specs.soundness.models.Constraints.{IsSoundEnd}
use Rattle.round_trip.specs.soundness.Lookups.{HasConcrete, IsElement, IsUnderElement}
use Rattle.round_trip.specs.soundness.models.ModelIds.{IsSetId, IsTypeId}
use Rattle.groupings.specs.name_places.GivenNames.{first_place}
use Rattle.groupings.proofs.name_places.FirstPlaces.{first_has}
use Rattle.graphs.specs.base_chains.Chains.{IsUpFrom}
use Rattle.csdl_names.specs.declared.csdl_lists.raw.RawAssociation.{RawAssociation}
use Rattle.csdl_names.specs.declared.csdl_lists.raw.RawAssociationSet.{RawAssociationSet}
use Rattle.csdl_names.specs.declared.csdl_lists.raw.RawEnd.{RawEnd}
use Rattle.csdl_names.specs.declared.csdl_lists.raw.RawModel.{RawModel}
use Rattle.csdl_names.specs.declared.csdl_lists.raw.RawSet.{RawSet}
use Rattle.csdl_names.specs.declared.csdl_lists.raw.RawSetEnd.{RawSetEnd}
use Rattle.csdl_names.specs.csdl_lists.References.{local_name, names_in}
use Rattle.csdl_names.specs.SetRoles.{element_of, element_of_role, set_of_role}
use Rattle.csdl_names.specs.Unresolved.{end_of_role, type_of_role}
use Rattle.csdl_associations.specs.csdl_association_sets.SetEnds.{HasOtherType}
use Rattle.csdl_meaning.specs.Meaning.{base_in, type_of}
use Rattle.csdl_meaning.specs.ModelMeaning.{end_of, meaning, set_numbered, set_of}
use Rattle.csdl_meaning.proofs.types.Bases.{type_at}
use Rattle.emc_base.proofs.FoundItems.{and_then_some, some_member}
use Rattle.emc_base.proofs.Joined.{at_map}
use Rattle.csdl_model.specs.csdl_sound.SoundMeaning.{KeepsRules}
use Rattle.groupings.proofs.name_places.Finds.{found_named, itself_found, named_found}
use Rattle.csdl_meaning.proofs.kept.Given.{roles_apart}
use Rattle.csdl_model.proofs.csdl_sound.associations.KeptSets.{end_concrete, no_other_type, roles_once}
use Rattle.csdl_model.proofs.csdl_sound.types.KeyIds.{never}
use Rattle.csdl_model.proofs.csdl_sound.associations.MeantAssocs.{IsMeantBy, association_is, is_named}
use Rattle.csdl_model.proofs.csdl_sound.types.MeantTypes.{has_concrete, is_under, meant}
use Rattle.csdl_meaning.proofs.kept.Resolved.{element_found, set_found, type_found}

-- what stands at an end of an association set: the type of the association's end, the end of the set that names its role, and the set there
pub record IsEndAt (raw : RawModel) (set : RawAssociationSet) (association : RawAssociation) (end : RawEnd) : Type 0 where
  pub type : ℕ
  pub is_type : (names_in raw).type_named end.ty ≡ Some type
  pub of_role : end_of_role association end.role ≡ Some end
  pub set_end : RawSetEnd
  pub has_end : Contains set.ends set_end
  pub same_role : set_end.role ≡ end.role
  pub place : ℕ
  pub names_set : (names_in raw).set_named set_end.set ≡ Some place
  pub is_set : set_of_role (names_in raw) raw set end.role ≡ Some place
  pub raw_set : RawSet
  pub has_set : At raw.container.sets place raw_set
  pub element : ℕ
  pub is_element : (names_in raw).type_named raw_set.element ≡ Some element

-- a type that is named is one of the types
pub type_inside : (raw : RawModel) (reference : List ℕ) (t : ℕ) → (names_in raw).type_named reference ≡ Some t → t < length raw.types
type_inside raw reference t is =
    let name = and_then_some (first_place (λ type. type.name) raw.types) (local_name raw reference) t is in
    let found = first_has (λ type. type.name) raw.types name.0 t name.2 in
    slice_get_within raw.types t found.0 found.1

-- and so it is in the model
pub named_type_id : (raw : RawModel) (reference : List ℕ) (t : ℕ) → (names_in raw).type_named reference ≡ Some t → IsTypeId (meaning raw) (type_numbered t)
named_type_id raw reference t is =
    let from = item_at raw.types t (type_inside raw reference t is) in
    slice_get_within (meaning raw).types t (type_of raw t from.0) (type_at raw (meaning raw) (meant raw) t from.0 from.1)

module _ (raw : RawModel) (keeps : KeepsRules raw) (assoc : Assoc) (by : IsMeantBy raw assoc) (k : ℕ) (end : RawEnd) (at : At by.association.ends k end) where
  -- everything is found
  pub end_at : IsEndAt raw by.set by.association end
  end_at =
      let type = type_found raw keeps.types.resolves_all by.number by.association by.is_association k end at in
      let has_role = contains_map (λ (end : RawEnd). end.role) by.association.ends end (contains_at by.association.ends k end at) in
      let roles = roles_once raw keeps.sets by.place by.set by.here by.association (association_is raw assoc by) in
      let set_end = named_found (λ (end : RawSetEnd). end.role) end.role by.set.ends (All-contains (Contains (map (λ end. end.role) by.set.ends)) (map (λ end. end.role) by.association.ends) end.role roles.all has_role) in
      let there = found_named (λ (end : RawSetEnd). end.role) end.role by.set.ends set_end.0 set_end.1 in
      let place = set_found raw keeps.types.resolves_all by.place by.set by.here there.0 set_end.0 there.1 in
      let raw_set = first_has (λ (set : RawSet). set.name) raw.container.sets set_end.0.set place.0 place.1 in
      let element = element_found raw keeps.types.resolves_all place.0 raw_set.0 raw_set.1 in
      record {
        type = type.0;
        is_type = type.1;
        of_role = itself_found (λ (end : RawEnd). end.role) by.association.ends (roles_apart raw keeps.types.repeats_none by.number by.association by.is_association) k end at has_role;
        set_end = set_end.0;
        has_end = contains_at by.set.ends there.0 set_end.0 there.1;
        same_role = there.2;
        place = place.0;
        names_set = place.1;
        is_set = ap (option_and_then (λ (end : RawSetEnd). (names_in raw).set_named end.set)) set_end.1 ∙ place.1;
        raw_set = raw_set.0;
        has_set = raw_set.1;
        element = element.0;
        is_element = element.1;
      }

module _ (raw : RawModel) (set : RawAssociationSet) (association : RawAssociation) (end : RawEnd) (it : IsEndAt raw set association end) where
  -- the type of the end
  pub type_is : (end_of raw set end).ty ≡ type_numbered it.type
  type_is = ap (λ (found : Option ℕ). type_numbered (unwrap_or found 0)) it.is_type

  -- and its set
  pub set_is : (end_of raw set end).set ≡ set_numbered it.place
  set_is = ap (λ (found : Option ℕ). set_numbered (unwrap_or found 0)) it.is_set

  -- the type by the role
  pub type_by_role : type_of_role (names_in raw) raw association end.role ≡ Some it.type
  type_by_role = ap (option_and_then (λ (end : RawEnd). (names_in raw).type_named end.ty)) it.of_role ∙ it.is_type

  -- the element type of the set
  element_there : element_of (names_in raw) raw it.place ≡ Some it.element
  element_there = ap (option_and_then (λ (set : RawSet). (names_in raw).type_named set.element)) it.has_set ∙ it.is_element

  pub element_by_role : element_of_role (names_in raw) raw set end.role ≡ Some it.element
  element_by_role = ap (option_and_then (element_of (names_in raw) raw)) it.is_set ∙ element_there

  -- the set of the model
  pub set_there : At (meaning raw).sets it.place (set_of raw it.raw_set)
  set_there = at_map (set_of raw) raw.container.sets it.place it.raw_set it.has_set

  pub element_is : (set_of raw it.raw_set).element ≡ type_numbered it.element
  element_is = ap (λ (found : Option ℕ). type_numbered (unwrap_or found 0)) it.is_element

  -- the set is one of the sets
  pub set_id : IsSetId (meaning raw) (set_numbered it.place)
  set_id = slice_get_within (meaning raw).sets it.place (set_of raw it.raw_set) set_there

  -- where the set's element type is the type, it is so in the model
  pub is_element_of : element_of_role (names_in raw) raw set end.role ≡ type_of_role (names_in raw) raw association end.role → IsElement (meaning raw) (set_numbered it.place) (type_numbered it.type)
  is_element_of same =
      let one : it.element ≡ it.type = same_Some it.element it.type (sym element_by_role ∙ same ∙ type_by_role) in
      (set_of raw it.raw_set, set_there, element_is ∙ ap type_numbered one)

module _ (raw : RawModel) (keeps : KeepsRules raw) (assoc : Assoc) (by : IsMeantBy raw assoc) (k : ℕ) (end : RawEnd) (at : At by.association.ends k end) where
  -- V20: the type is the set's element type or derived from it
  under_element : (it : IsEndAt raw by.set by.association end) → IsA (meaning raw) (type_numbered it.type) (type_numbered it.element)
  under_element it = is_under raw (never raw keeps.types) it.type it.element (type_inside raw end.ty it.type it.is_type) (λ other.
      no_other_type raw keeps.sets by.place by.set by.here by.association (association_is raw assoc by)
      (some_member (HasOtherType (names_in raw) raw by.association) by.set.ends it.set_end it.has_end
      (let P : Option ℕ → Option ℕ → Type 0 = λ found place. MatchOption found ⊥ (λ i. MatchOption place ⊥ (λ j. ¬ IsUpFrom (base_in raw) i j)) in
      subst (λ found. P found (option_and_then (element_of (names_in raw) raw) ((names_in raw).set_named it.set_end.set)))
      (sym (ap (type_of_role (names_in raw) raw by.association) it.same_role ∙ type_by_role raw by.set by.association end it))
      (subst (P (Some it.type)) (sym (ap (option_and_then (element_of (names_in raw) raw)) it.names_set ∙ element_there raw by.set by.association end it)) other))))

  -- V14, V20
  pub sound_end : IsSoundEnd (meaning raw) (end_of raw by.set end)
  sound_end =
      let it = end_at raw keeps assoc by k end at in
      record {
        concrete = let P : TypeId → Type 0 = λ t. HasConcrete (meaning raw) t in
            subst P (sym (type_is raw by.set by.association end it)) (has_concrete raw (never raw keeps.types) it.type
            (end_concrete raw keeps.sets by.number by.association by.is_association (is_named raw assoc by) k end at it.type it.is_type));
        under = let P : SetId → TypeId → Type 0 = λ s t. IsUnderElement (meaning raw) s t in
            subst (λ s. P s (end_of raw by.set end).ty) (sym (set_is raw by.set by.association end it)) (subst (P (set_numbered it.place)) (sym (type_is raw by.set by.association end it)) (
              set_of raw it.raw_set,
              set_there raw by.set by.association end it,
              (let Q : TypeId → Type 0 = λ u. IsA (meaning raw) (type_numbered it.type) u in subst Q (sym (element_is raw by.set by.association end it)) (under_element it)),
            ));
      }
