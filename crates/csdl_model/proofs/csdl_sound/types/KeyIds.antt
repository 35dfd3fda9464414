-- Keys by their names and by their ids. V9, V10, V11.
use Rattle.std.proofs.Common.{◌≡◌, ℕ, ◌+◌, ◌<◌, List, [], ◌++◌, length, Any, Contains, Option, Some, None, option_map, sym, ap, subst, ◌∙◌}
use Rattle.std.specs.List.{filter_map, flat_map}
use Rattle.std.specs.Option.{MatchOption, option_and_then, option_map_or, unwrap_or}
use Rattle.std.proofs.lemmas.Option.{same_Some}
use Rattle.std.proofs.lemmas.List.Elements.{All-contains}
use Rattle.emc_base.specs.Lists.{At, AreApart, HoldsEachOnce}
use Rattle.emc_base.proofs.Lists.{all_from_members, item_at}
use Rattle.graphs.specs.base_chains.Chains.{IsAncestor}
use Rattle.graphs.proofs.base_chains.orders.Orders.{place_of_member}
use Rattle.edm_types.specs.Forest.{type_numbered}
use Rattle.round_trip.specs.Words.{PropId, key_props}
use Rattle.round_trip.specs.soundness.models.Inheritance.{IsRootKey, prop_numbered}
use Rattle.groupings.specs.name_places.GivenNames.{first_place}
use Rattle.groupings.proofs.name_places.FirstPlaces.{first_upto}
use Rattle.csdl_names.specs.declared.csdl_lists.raw.RawModel.{RawModel}
use Rattle.csdl_names.specs.declared.csdl_lists.raw.RawProp.{RawProp}
use Rattle.csdl_names.specs.declared.csdl_lists.raw.RawType.{RawType}
use Rattle.csdl_names.specs.csdl_lists.References.{names_in}
use Rattle.csdl_names.specs.declared.lookups.PropPlace.{PropPlace}
use Rattle.csdl_associations.specs.csdl_constraints.Sides.{key_names}
use Rattle.csdl_meaning.specs.Meaning.{base_in, chain_in, declared_before, declared_by, own_key, prop_named, type_of}
use Rattle.csdl_meaning.specs.ModelMeaning.{meaning, prop_id}
use Rattle.csdl_meaning.specs.SoundTypes.{KeepsTypeRules}
use Rattle.csdl_meaning.proofs.types.Bases.{along_chain, type_at}
use Rattle.csdl_meaning.proofs.types.Keys.{declared_is, named}
use Rattle.csdl_meaning.proofs.kept.KeptNames.{key_declared, no_reference}
use Rattle.csdl_meaning.proofs.kept.KeptTypes.{none_above_itself, none_inherited, root_has_key}
use Rattle.emc_base.proofs.Joined.{found_apart, in_found}
use Rattle.csdl_meaning.proofs.types.Props.{has_at}
use Rattle.csdl_meaning.proofs.types.Sound.{sound}
use Rattle.emc_base.proofs.FoundItems.{contains_found, member_of, some_member}
use Rattle.csdl_model.proofs.csdl_sound.types.MeantTypes.{meant}
use Rattle.csdl_model.proofs.csdl_sound.types.PropIds.{of_id, one_name}
use Rattle.csdl_model.proofs.csdl_sound.types.Roots.{from_top, top_found, top_here, top_inside, top_is_root, top_of, top_step}

module _ (raw : RawModel) (keeps : KeepsTypeRules raw) where
  -- V8
  pub never : (i : ℕ) → ¬ IsAncestor (base_in raw) i i
  never = none_above_itself raw keeps.keeps_types

  -- the type at the top above a type
  abbrev pub top : ℕ → ℕ
  top = top_of raw

  -- V9: the key of a type is the one that the type at the top declares
  pub key_is : (i : ℕ) → i < length raw.types → key_props (meaning raw) (type_numbered i) ≡ own_key raw (top i)
  key_is = from_top raw never (λ i. key_props (meaning raw) (type_numbered i) ≡ own_key raw (top i))
      (λ i inside none.
      let from = has_at raw (meaning raw) (meant raw) (λ type. type.key) i inside in
      from.2
      ∙ along_chain raw (own_key raw) never i inside
      ∙ ap (λ (o : Option ℕ). option_map_or (λ j. flat_map (own_key raw) (chain_in raw j)) o [] ++ own_key raw i) none
      ∙ ap (own_key raw) (sym (top_here raw never i inside none)))
      (λ i j inside is rest.
      let from = has_at raw (meaning raw) (meant raw) (λ type. type.key) i inside in
      let holds = (sound raw (meaning raw) keeps (meant raw)).types (type_numbered i) (type_of raw i from.0) (type_at raw (meaning raw) (meant raw) i from.0 from.1) in
      let P : Option ℕ → Type 0 = λ base. MatchOption (option_map type_numbered base) (IsRootKey (meaning raw) (type_numbered i) (flat_map (own_key raw) (chain_in raw i)))
      (λ base. flat_map (own_key raw) (chain_in raw i) ≡ key_props (meaning raw) base) in
      from.2 ∙ subst P is holds.key ∙ rest ∙ ap (own_key raw) (sym (top_step raw never i j inside is)))

  module _ (i : ℕ) (inside : i < length raw.types) where
    -- what the type at the top declares is what the type has of that name
    top_id : (name : List ℕ) (k : ℕ) → first_place (λ prop. prop.name) (declared_by raw (top i)) name ≡ Some k
        → prop_id raw i name ≡ Some (prop_numbered (declared_before raw (top i) + k))
    top_id name k first =
        ap (option_map (λ (found : PropPlace). prop_numbered (declared_before raw found.owner + found.place)))
        (top_found raw never (λ i type here j other there. none_inherited raw keeps.keeps_types i type here j other there) name k i inside first)

    -- a property of the key has one id, by the type at the top and by the type
    pub key_id : (name : List ℕ) (id : PropId) → prop_named raw (top i) name ≡ Some id → prop_id raw i name ≡ Some id
    key_id name id is = let it = named raw (top i) name id is in top_id name it.place it.is_first ∙ ap Some it.is_id

    -- V7: the type at the top declares the properties of its key
    at_top : (type : RawType) → At raw.types (top i) type → (names : List (List ℕ)) → type.base ≡ None → type.key ≡ Some names → (name : List ℕ) → Contains names name
        → (k : ℕ) × (first_place (λ prop. prop.name) (declared_by raw (top i)) name ≡ Some k)
    at_top type here names none is name has =
        let declared = key_declared raw keeps.resolves_all (top i) type names here none is name has in
        let first = first_upto (λ prop. prop.name) type.props name declared.1.0 declared.0 (place_of_member type.props declared.0 declared.1) declared.2 in
        (first.0, ap (λ (props : List RawProp). first_place (λ prop. prop.name) props name) (declared_is raw (top i) type here) ∙ first.1)

    -- the names of the key, by the type at the top
    names_at_top : (type : RawType) → At raw.types (top i) type → (names : List (List ℕ)) → type.key ≡ Some names → key_names (names_in raw) raw i ≡ names
    names_at_top type here names is =
        ap (λ (found : Option RawType). unwrap_or (option_and_then (λ type. type.key) found) []) here ∙ ap (λ (key : Option (List (List ℕ))). unwrap_or key []) is

    -- what it declares has an id, the same by both
    declared_id : (name : List ℕ) (k : ℕ) → first_place (λ prop. prop.name) (declared_by raw (top i)) name ≡ Some k
        → (id : PropId) × (prop_named raw (top i) name ≡ Some id) × (prop_id raw i name ≡ Some id)
    declared_id name k first = (
      prop_numbered (declared_before raw (top i) + k),
      ap (option_map (λ k. prop_numbered (declared_before raw (top i) + k))) first,
      top_id name k first,
    )

    -- so each property of the key has one
    pub key_has_id : (name : List ℕ) → Contains (key_names (names_in raw) raw i) name → (id : PropId) × (prop_named raw (top i) name ≡ Some id) × (prop_id raw i name ≡ Some id)
    key_has_id name has =
        let type = item_at raw.types (top i) (top_inside raw never i inside) in
        let none = no_reference raw keeps.resolves_all (top i) type.0 type.1 (top_is_root raw never i inside) in
        let key = root_has_key raw keeps.keeps_types (top i) type.0 type.1 none in
        let P : List (List ℕ) → Type 0 = λ names. Contains names name in
        let first = at_top type.0 type.1 key.0 none key.1 name (subst P (names_at_top type.0 type.1 key.0 key.1) has) in
        declared_id name first.0 first.1

    -- what has an id of the key has a name of the key
    pub name_in_key : (name : List ℕ) (id : PropId) → prop_id raw i name ≡ Some id → Contains (key_props (meaning raw) (type_numbered i)) id → Contains (key_names (names_in raw) raw i) name
    name_in_key name id is has =
        let P : List PropId → Type 0 = λ ids. Contains ids id in
        let found = in_found (prop_named raw (top i)) (key_names (names_in raw) raw i) id (subst P (key_is i inside) has) in
        let Q : List ℕ → Type 0 = λ name. Contains (key_names (names_in raw) raw i) name in
        subst Q (one_name raw i i found.0 name id (of_id raw i found.0 id (key_id found.0 id found.2)) (of_id raw i name id is)) found.1

    -- and back
    pub id_in_key : (name : List ℕ) (id : PropId) → prop_id raw i name ≡ Some id → Contains (key_names (names_in raw) raw i) name → Contains (key_props (meaning raw) (type_numbered i)) id
    id_in_key name id is has =
        let it = key_has_id name has in
        let P : List PropId → Type 0 = λ ids. Contains ids id in
        let same : it.0 ≡ id = same_Some it.0 id (sym it.2 ∙ is) in
        subst P (sym (key_is i inside)) (contains_found (prop_named raw (top i)) (key_names (names_in raw) raw i) name id has (it.1 ∙ ap Some same))

    -- names that are apart have ids that are
    pub ids_apart : (names : List (List ℕ)) → AreApart names → AreApart (filter_map (prop_id raw i) names)
    ids_apart = found_apart (prop_id raw i) (λ one other id first second. one_name raw i i one other id (of_id raw i one id first) (of_id raw i other id second))

    -- V16, V17: names that are the whole key have ids that are
    pub whole_key : (names : List (List ℕ)) → HoldsEachOnce (key_names (names_in raw) raw i) names
        → HoldsEachOnce (key_props (meaning raw) (type_numbered i)) (filter_map (prop_id raw i) names)
    whole_key names holds = record {
      once = ids_apart names holds.once;
      all = all_from_members (Contains (filter_map (prop_id raw i) names)) (key_props (meaning raw) (type_numbered i)) (λ id has.
          let P : List PropId → Type 0 = λ ids. Contains ids id in
          let found = in_found (prop_named raw (top i)) (key_names (names_in raw) raw i) id (subst P (key_is i inside) has) in
          contains_found (prop_id raw i) names found.0 id (All-contains (Contains names) (key_names (names_in raw) raw i) found.0 holds.all found.1) (key_id found.0 id found.2));
      only = all_from_members (Contains (key_props (meaning raw) (type_numbered i))) (filter_map (prop_id raw i) names) (λ id has.
          let found = in_found (prop_id raw i) names id has in
          id_in_key found.0 id found.2 (All-contains (Contains (key_names (names_in raw) raw i)) names found.0 holds.only found.1));
    }

    -- V18, V19: a property of the key is among them by its id, so it is by its name
    pub by_key : (names : List (List ℕ)) → Any (Contains (key_props (meaning raw) (type_numbered i))) (filter_map (prop_id raw i) names) → Any (Contains (key_names (names_in raw) raw i)) names
    by_key names some =
        let id = member_of (Contains (key_props (meaning raw) (type_numbered i))) (filter_map (prop_id raw i) names) some in
        let found = in_found (prop_id raw i) names id.0 id.1 in
        some_member (Contains (key_names (names_in raw) raw i)) names found.0 found.1 (name_in_key found.0 id.0 found.2 id.2)
