-- The type at the top above a type: it is found step by step, and what it declares is found from the type.
use Rattle.std.proofs.Common.{◌≡◌, ⊎_elim, inl, inr, ℕ, zero, suc, ◌<◌, List, [], ◌∷◌, length, map, get_or, slice_get, Contains, Option, Some, None, refl, sym, ap, subst, ◌∙◌, arith}
use Rattle.std.specs.Bool.{⊤}
use Rattle.std.specs.Option.{MatchOption, option_and_then, option_or}
use Rattle.std.proofs.lemmas.List.{get_or_append_left, get_or_default}
use Rattle.std.proofs.lemmas.List.Elements.{Contains-append_left}
use Rattle.emc_base.specs.Lists.{At}
use Rattle.emc_base.proofs.Lists.{item_at}
use Rattle.emc_base.proofs.Mapped.{contains_at, contains_map}
use Rattle.graphs.specs.base_chains.Chains.{IsAncestor, IsUpFrom, chain, direct, further, root}
use Rattle.graphs.proofs.base_chains.Chains.{Ends, chain_root, chain_step, ends, itself_in}
use Rattle.groupings.specs.name_places.GivenNames.{first_place}
use Rattle.groupings.proofs.name_places.FirstPlaces.{first_has}
use Rattle.csdl_names.specs.declared.csdl_lists.raw.RawModel.{RawModel}
use Rattle.csdl_names.specs.declared.csdl_lists.raw.RawProp.{RawProp}
use Rattle.csdl_names.specs.declared.csdl_lists.raw.RawType.{RawType}
use Rattle.csdl_names.specs.csdl_lists.References.{names_in}
use Rattle.csdl_names.specs.declared.lookups.PropPlace.{PropPlace}
use Rattle.csdl_names.specs.PropPlaces.{own_prop, place_of_prop, prop_of_type, prop_upto}
use Rattle.csdl_meaning.specs.Meaning.{base_in, declared_by}
use Rattle.csdl_meaning.proofs.types.Bases.{base_inside}
use Rattle.emc_base.proofs.FoundItems.{and_then_some, map_some}
use Rattle.csdl_meaning.proofs.types.Keys.{declared_is}
use Rattle.csdl_meaning.proofs.types.Names.{member_names}
use Rattle.csdl_model.proofs.csdl_sound.types.PropIds.{own_is}

-- the place of the type at the top above a type
abbrev pub top_of : RawModel → ℕ → ℕ
top_of raw i = root (base_in raw) (length raw.types) i

module _ (raw : RawModel) (never : (i : ℕ) → ¬ IsAncestor (base_in raw) i i) where
  -- each chain ends
  pub end_of : (i : ℕ) → i < length raw.types → Ends (base_in raw) (length raw.types) i
  end_of i inside = ends (base_in raw) never (length raw.types) (base_inside raw) i inside

  -- a type without a base type is its own
  pub top_here : (i : ℕ) → i < length raw.types → base_in raw i ≡ None → top_of raw i ≡ i
  top_here i inside none = ap (λ (places : List ℕ). get_or places 0 i) (chain_root (base_in raw) (length raw.types) i (end_of i inside) none)

  -- the others have that of their base type
  pub top_step : (i j : ℕ) → i < length raw.types → base_in raw i ≡ Some j → top_of raw i ≡ top_of raw j
  top_step i j inside is =
      let some : 0 < length (chain (base_in raw) (length raw.types) j) =
      (let has = itself_in (base_in raw) (length raw.types) j (end_of j (base_inside raw i j is)) in let within : has.0 < length (chain (base_in raw) (length raw.types) j) = has.1 in omega arith) in
      ap (λ (places : List ℕ). get_or places 0 i) (chain_step (base_in raw) (length raw.types) i j (end_of i inside) is)
      ∙ get_or_append_left (chain (base_in raw) (length raw.types) j) (i ∷ []) i 0 some
      ∙ get_or_default (chain (base_in raw) (length raw.types) j) 0 i j some

  -- what goes on from each base type to what is based on it holds of all
  pub from_top : (P : ℕ → Type 0) → ((i : ℕ) → i < length raw.types → base_in raw i ≡ None → P i)
      → ((i j : ℕ) → i < length raw.types → base_in raw i ≡ Some j → P j → P i) → (i : ℕ) → i < length raw.types → P i
  from_top P top step i inside = go (length raw.types) i (end_of i inside) inside
    where
      go : (n i : ℕ) → Ends (base_in raw) n i → i < length raw.types → P i
      go zero i end inside = absurd end
      go (suc n) i end inside = by (base_in raw i) refl end (go n)
        where
          by : (base : Option ℕ) → base_in raw i ≡ base → MatchOption base ⊤ (λ j. Ends (base_in raw) n j) → ((j : ℕ) → Ends (base_in raw) n j → j < length raw.types → P j) → P i
          by None is up rest = top i inside is
          by (Some j) is up rest = step i j inside is (rest j up (base_inside raw i j is))

  -- the type at the top has no base type
  pub top_is_root : (i : ℕ) → i < length raw.types → base_in raw (top_of raw i) ≡ None
  top_is_root = from_top (λ i. base_in raw (top_of raw i) ≡ None)
      (λ i inside none. ap (base_in raw) (top_here i inside none) ∙ none)
      (λ i j inside is rest. ap (base_in raw) (top_step i j inside is) ∙ rest)

  -- it is one of the types
  pub top_inside : (i : ℕ) → i < length raw.types → top_of raw i < length raw.types
  top_inside = from_top (λ i. top_of raw i < length raw.types)
      (λ i inside none. let P : ℕ → Type 0 = λ k. k < length raw.types in subst P (sym (top_here i inside none)) inside)
      (λ i j inside is rest. let P : ℕ → Type 0 = λ k. k < length raw.types in subst P (sym (top_step i j inside is)) rest)

  -- it stands above a type that has a base type
  top_above : (i j : ℕ) → i < length raw.types → base_in raw i ≡ Some j → IsUpFrom (base_in raw) j (top_of raw j) → IsAncestor (base_in raw) i (top_of raw i)
  top_above i j inside is rest = let P : ℕ → Type 0 = λ k. IsAncestor (base_in raw) i k in
      subst P (sym (top_step i j inside is)) (⊎_elim
      (λ (one : j ≡ top_of raw j). direct i (top_of raw j) (is ∙ ap Some one))
      (λ (above : IsAncestor (base_in raw) j (top_of raw j)). further i j (top_of raw j) is above)
      rest)

  -- it is the type or stands above it
  pub top_up : (i : ℕ) → i < length raw.types → IsUpFrom (base_in raw) i (top_of raw i)
  top_up = from_top (λ i. IsUpFrom (base_in raw) i (top_of raw i))
      (λ i inside none. inl (sym (top_here i inside none)))
      (λ i j inside is rest. inr (top_above i j inside is rest))

  -- V11: what the type at the top declares is what the type has of that name
  module _ (distinct : (i : ℕ) (type : RawType) → At raw.types i type → (j : ℕ) (other : RawType) → At raw.types j other → IsAncestor (base_in raw) i j
      → (name : List ℕ) → Contains (member_names type) name → ¬ Contains (member_names other) name) (name : List ℕ) (k : ℕ) where
    -- a name of a property is one of the members' names
    is_member_name : (type : RawType) (n : ℕ) (prop : RawProp) → At type.props n prop → prop.name ≡ name → Contains (member_names type) name
    is_member_name type n prop at is =
        let P : List ℕ → Type 0 = λ name. Contains (member_names type) name in
        subst P is (Contains-append_left (map (λ prop. prop.name) type.props) (map (λ nav. nav.name) type.navs) prop.name (contains_map (λ prop. prop.name) type.props prop (contains_at type.props n prop at)))

    found_upto : (n i : ℕ) → Ends (base_in raw) n i → i < length raw.types → first_place (λ prop. prop.name) (declared_by raw (top_of raw i)) name ≡ Some k
        → prop_upto (names_in raw) raw n i name ≡ Some (record { owner = top_of raw i; place = k })
    found_upto zero i end inside first = absurd end
    found_upto (suc n) i end inside first = by (base_in raw i) refl end (found_upto n)
      where
        Found : ℕ → PropPlace
        Found t = record { owner = t; place = k }

        -- a type at the top declares it
        at_top : base_in raw i ≡ None → own_prop (names_in raw) raw i name ≡ Some (Found i)
        at_top none =
            let type = item_at raw.types i inside in
            own_is raw name i k type.0 type.1 (ap (λ (props : List RawProp). first_place (λ prop. prop.name) props name) (sym (declared_is raw i type.0 type.1))
            ∙ ap (λ (t : ℕ). first_place (λ prop. prop.name) (declared_by raw t) name) (sym (top_here i inside none)) ∙ first)

        -- none other does
        none_below : IsAncestor (base_in raw) i (top_of raw i) → (own : Option PropPlace) → own_prop (names_in raw) raw i name ≡ own → own ≡ None
        none_below above None own = refl
        none_below above (Some place) own =
            let found = map_some (λ (k : ℕ). record { owner = i; place = k }) (option_and_then (λ type. place_of_prop type name) (slice_get raw.types i)) place own in
            let type = and_then_some (λ type. place_of_prop type name) (slice_get raw.types i) found.0 found.1 in
            let mine = first_has (λ prop. prop.name) type.0.props name found.0 type.2 in
            let upper = item_at raw.types (top_of raw i) (top_inside i inside) in
            let theirs = first_has (λ prop. prop.name) upper.0.props name k
            (ap (λ (props : List RawProp). first_place (λ prop. prop.name) props name) (sym (declared_is raw (top_of raw i) upper.0 upper.1)) ∙ first) in
            absurd (distinct i type.0 type.1 (top_of raw i) upper.0 upper.1 above name (is_member_name type.0 found.0 mine.0 mine.1 mine.2) (is_member_name upper.0 k theirs.0 theirs.1 theirs.2))

        by : (base : Option ℕ) → base_in raw i ≡ base → MatchOption base ⊤ (λ j. Ends (base_in raw) n j)
            → ((j : ℕ) → Ends (base_in raw) n j → j < length raw.types → first_place (λ prop. prop.name) (declared_by raw (top_of raw j)) name ≡ Some k
            → prop_upto (names_in raw) raw n j name ≡ Some (Found (top_of raw j)))
            → option_or (own_prop (names_in raw) raw i name) (option_and_then (λ base. prop_upto (names_in raw) raw n base name) base) ≡ Some (Found (top_of raw i))
        by None is up rest = ap (λ (own : Option PropPlace). option_or own None) (at_top is) ∙ ap (λ t. Some (Found t)) (sym (top_here i inside is))
        by (Some j) is up rest =
            let same = top_step i j inside is in
            ap (λ (own : Option PropPlace). option_or own (prop_upto (names_in raw) raw n j name))
            (none_below (top_above i j inside is (top_up j (base_inside raw i j is))) (own_prop (names_in raw) raw i name) refl)
            ∙ rest j up (base_inside raw i j is) (ap (λ (t : ℕ). first_place (λ prop. prop.name) (declared_by raw t) name) (sym same) ∙ first)
            ∙ ap (λ t. Some (Found t)) (sym same)

    pub top_found : (i : ℕ) → i < length raw.types → first_place (λ prop. prop.name) (declared_by raw (top_of raw i)) name ≡ Some k
        → prop_of_type (names_in raw) raw i name ≡ Some (record { owner = top_of raw i; place = k })
    top_found i inside = found_upto (length raw.types) i (end_of i inside) inside
