-- The property that a type has of a name: its own, or an inherited one; its id, and what stands there. V7, V8.
use Rattle.std.proofs.Common.{◌≡◌, ⊎_elim, inl, inr, ℕ, zero, suc, ◌+◌, ◌<◌, List, length, slice_get, Option, Some, None, option_map, refl, sym, ap, subst, ◌∙◌}
use Rattle.std.specs.Bool.{⊤}
use Rattle.std.specs.Option.{MatchOption, option_and_then, option_or}
use Rattle.std.proofs.lemmas.Option.{none-some, slice_get-get_or}
use Rattle.emc_base.specs.Lists.{At}
use Rattle.emc_base.proofs.Lists.{at_once, item_at}
use Rattle.round_trip.specs.Words.{Prop, PropId}
use Rattle.round_trip.specs.soundness.models.Inheritance.{prop_numbered}
use Rattle.graphs.specs.base_chains.Chains.{IsAncestor, IsUpFrom, direct, further}
use Rattle.graphs.proofs.base_chains.Chains.{Ends, ends}
use Rattle.groupings.specs.name_places.GivenNames.{first_place}
use Rattle.groupings.proofs.name_places.FirstPlaces.{first_has, first_upto}
use Rattle.csdl_names.specs.declared.csdl_lists.raw.RawModel.{RawModel}
use Rattle.csdl_names.specs.declared.csdl_lists.raw.RawProp.{RawProp}
use Rattle.csdl_names.specs.declared.csdl_lists.raw.RawType.{RawType}
use Rattle.csdl_names.specs.csdl_lists.References.{names_in}
use Rattle.csdl_names.specs.declared.lookups.PropPlace.{PropPlace}
use Rattle.csdl_names.specs.PropPlaces.{own_prop, place_of_prop, prop_at, prop_of_type, prop_upto}
use Rattle.csdl_names.specs.Unresolved.{Declares, LacksProp, derived, root}
use Rattle.csdl_meaning.specs.Meaning.{base_in, declared_before, prop_named, prop_of, props_in}
use Rattle.csdl_meaning.specs.ModelMeaning.{prop_id}
use Rattle.csdl_meaning.proofs.types.Bases.{base_inside}
use Rattle.emc_base.proofs.FoundItems.{and_then_some, map_some}
use Rattle.csdl_meaning.proofs.types.Keys.{declared_is}
use Rattle.csdl_meaning.proofs.types.Props.{prop_at as meant_at}
use Rattle.groupings.proofs.name_places.Finds.{there_is}

-- a property of this name that a type declares: it is one of those that the type at the first place has
pub record IsPropHere (raw : RawModel) (i : ℕ) (name : List ℕ) (place : PropPlace) : Type 0 where
  pub prop : RawProp
  pub owner : RawType
  pub is_owner : At raw.types place.owner owner
  pub is_prop : At owner.props place.place prop
  pub is_name : prop.name ≡ name
  pub is_first : first_place (λ prop. prop.name) owner.props name ≡ Some place.place
  pub up : IsUpFrom (base_in raw) i place.owner

module _ (raw : RawModel) (name : List ℕ) where
  -- what a type declares itself
  own_here : (i : ℕ) (place : PropPlace) → own_prop (names_in raw) raw i name ≡ Some place → IsPropHere raw i name place
  own_here i place is =
      let found = map_some (λ (k : ℕ). record { owner = i; place = k }) (option_and_then (λ type. place_of_prop type name) (slice_get raw.types i)) place is in
      let type = and_then_some (λ type. place_of_prop type name) (slice_get raw.types i) found.0 found.1 in
      let first = first_has (λ prop. prop.name) type.0.props name found.0 type.2 in
      let P : PropPlace → Type 0 = λ place. IsPropHere raw i name place in
      subst P found.2 (record { prop = first.0; owner = type.0; is_owner = type.1; is_prop = first.1; is_name = first.2; is_first = type.2; up = inl refl })

  -- what is found stands in the type or above it
  pub found_here : (n i : ℕ) (place : PropPlace) → prop_upto (names_in raw) raw n i name ≡ Some place → IsPropHere raw i name place
  found_here zero i place is = absurd cc
  found_here (suc n) i place is = by (own_prop (names_in raw) raw i name) refl is (found_here n)
    where
      above : (base : Option ℕ) → base_in raw i ≡ base → option_and_then (λ base. prop_upto (names_in raw) raw n base name) base ≡ Some place
          → ((j : ℕ) (place : PropPlace) → prop_upto (names_in raw) raw n j name ≡ Some place → IsPropHere raw j name place) → IsPropHere raw i name place
      above None none later rest = absurd cc
      above (Some j) base later rest =
          let it = rest j place later in
          record {
            prop = it.prop;
            owner = it.owner;
            is_owner = it.is_owner;
            is_prop = it.is_prop;
            is_name = it.is_name;
            is_first = it.is_first;
            up = ⊎_elim
                (λ (same : j ≡ place.owner). inr (direct i place.owner (base ∙ ap Some same)))
                (λ (upper : IsAncestor (base_in raw) j place.owner). inr (further i j place.owner base upper))
                it.up;
          }

      by : (own : Option PropPlace) → own_prop (names_in raw) raw i name ≡ own
          → option_or own (option_and_then (λ base. prop_upto (names_in raw) raw n base name) (base_in raw i)) ≡ Some place
          → ((j : ℕ) (place : PropPlace) → prop_upto (names_in raw) raw n j name ≡ Some place → IsPropHere raw j name place) → IsPropHere raw i name place
      by None none later rest = above (base_in raw i) refl later rest
      by (Some here) own later rest = own_here i place (own ∙ later)

  -- a type's own property of the name, where it declares one
  pub own_is : (i k : ℕ) (type : RawType) → At raw.types i type → first_place (λ prop. prop.name) type.props name ≡ Some k
      → own_prop (names_in raw) raw i name ≡ Some (record { owner = i; place = k })
  own_is i k type here first =
      ap (λ (found : Option RawType). option_map (λ (k : ℕ). record { owner = i; place = k }) (option_and_then (λ type. place_of_prop type name) found)) here
      ∙ ap (option_map (λ (k : ℕ). record { owner = i; place = k })) first

  -- what isn't found is lacking, where base types are found
  module _ (resolves : (i : ℕ) (type : RawType) → At raw.types i type → base_in raw i ≡ None → type.base ≡ None) where
    -- a type that has no property of its own declares none
    not_declared : (i : ℕ) (type : RawType) → At raw.types i type → own_prop (names_in raw) raw i name ≡ None → ¬ Declares type name
    not_declared i type here none declares =
        let first = first_upto (λ prop. prop.name) type.props name declares.0 declares.1 (slice_get-get_or type.props declares.0 declares.1 declares.2 ∙ ap Some declares.3) declares.4 in
        none-some (record { owner = i; place = first.0 }) (sym none ∙ own_is i first.0 type here first.1)

    lacking : (n i : ℕ) → Ends (base_in raw) n i → i < length raw.types → prop_upto (names_in raw) raw n i name ≡ None → LacksProp (names_in raw) raw name i
    lacking zero i end inside none = absurd end
    lacking (suc n) i end inside none =
        let type = item_at raw.types i inside in
        by (own_prop (names_in raw) raw i name) refl none type.0 type.1 (lacking n)
      where
        above : (base : Option ℕ) → base_in raw i ≡ base → option_and_then (λ base. prop_upto (names_in raw) raw n base name) base ≡ None → MatchOption base ⊤ (λ j. Ends (base_in raw) n j)
            → (type : RawType) → At raw.types i type → ¬ Declares type name
            → ((j : ℕ) → Ends (base_in raw) n j → j < length raw.types → prop_upto (names_in raw) raw n j name ≡ None → LacksProp (names_in raw) raw name j) → LacksProp (names_in raw) raw name i
        above None is later up type here not rest = root i type here (resolves i type here is) not
        above (Some j) is later up type here not rest = derived i j type here is not (rest j up (base_inside raw i j is) later)

        by : (own : Option PropPlace) → own_prop (names_in raw) raw i name ≡ own
            → option_or own (option_and_then (λ base. prop_upto (names_in raw) raw n base name) (base_in raw i)) ≡ None → (type : RawType) → At raw.types i type
            → ((j : ℕ) → Ends (base_in raw) n j → j < length raw.types → prop_upto (names_in raw) raw n j name ≡ None → LacksProp (names_in raw) raw name j) → LacksProp (names_in raw) raw name i
        by (Some place) own later type here rest = absurd cc
        by None own later type here rest = above (base_in raw i) refl later end type here (not_declared i type here own) rest

    -- V7, V8: what isn't lacking has an id
    pub id_found : ((i : ℕ) → ¬ IsAncestor (base_in raw) i i) → (t : ℕ) → t < length raw.types → ¬ LacksProp (names_in raw) raw name t → (id : PropId) × (prop_id raw t name ≡ Some id)
    id_found never t inside has =
        let place = there_is (prop_of_type (names_in raw) raw t name) (λ none. has (lacking (length raw.types) t (ends (base_in raw) never (length raw.types) (base_inside raw) t inside) inside none)) in (
          prop_numbered (declared_before raw place.0.owner + place.0.place),
          ap (option_map (λ (found : PropPlace). prop_numbered (declared_before raw found.owner + found.place))) place.1,
        )

-- the id is that of the property of this name that a type has
pub record IsIdOf (raw : RawModel) (t : ℕ) (name : List ℕ) (id : PropId) : Type 0 where
  pub place : PropPlace
  pub found : prop_of_type (names_in raw) raw t name ≡ Some place
  pub here : IsPropHere raw t name place
  pub is_id : prop_numbered (declared_before raw place.owner + place.place) ≡ id

module _ (raw : RawModel) (t : ℕ) (name : List ℕ) (id : PropId) where
  -- what has an id
  pub of_id : prop_id raw t name ≡ Some id → IsIdOf raw t name id
  of_id is =
      let found = map_some (λ (found : PropPlace). prop_numbered (declared_before raw found.owner + found.place)) (prop_of_type (names_in raw) raw t name) id is in
      record { place = found.0; found = found.1; here = found_here raw name (length raw.types) t found.0 found.1; is_id = found.2 }

  module _ (is : IsIdOf raw t name id) where
    -- the property itself is looked up
    pub raw_prop_is : option_and_then (prop_at raw) (prop_of_type (names_in raw) raw t name) ≡ Some is.here.prop
    raw_prop_is =
        ap (option_and_then (prop_at raw)) is.found
        ∙ ap (option_and_then (λ (type : RawType). slice_get type.props is.place.place)) is.here.is_owner
        ∙ is.here.is_prop

    -- it stands at its id
    pub stands : At (props_in raw) id.index (prop_of raw is.place.owner is.here.prop)
    stands =
        let P : List RawProp → Type 0 = λ props. At props is.place.place is.here.prop in
        (λ k. slice_get (props_in raw) (sym is.is_id k).index)
        ∙ meant_at raw is.place.owner is.place.place is.here.prop (subst P (sym (declared_is raw is.place.owner is.here.owner is.here.is_owner)) is.here.is_prop)

    -- the type that declares it knows it by its name
    pub named_there : prop_named raw is.place.owner name ≡ Some id
    named_there =
        ap (λ (props : List RawProp). option_map (λ k. prop_numbered (declared_before raw is.place.owner + k)) (first_place (λ prop. prop.name) props name)) (declared_is raw is.place.owner is.here.owner is.here.is_owner)
        ∙ ap (option_map (λ k. prop_numbered (declared_before raw is.place.owner + k))) is.here.is_first
        ∙ ap Some is.is_id

-- one id has one name
pub one_name : (raw : RawModel) (t u : ℕ) (one other : List ℕ) (id : PropId) → IsIdOf raw t one id → IsIdOf raw u other id → one ≡ other
one_name raw t u one other id first second =
    let same = at_once (props_in raw) id.index (prop_of raw first.place.owner first.here.prop) (prop_of raw second.place.owner second.here.prop) (stands raw t one id first) (stands raw u other id second) in
    sym first.here.is_name ∙ ap (λ (prop : Prop). prop.name) same ∙ second.here.is_name
