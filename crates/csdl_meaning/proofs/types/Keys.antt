-- Keys: which properties are in a key, and what base types give. V7, V9, V10.
use Rattle.emc_base.proofs.FoundItems.{map_some}
use Rattle.std.proofs.Common.{◌≡◌, ◌≢◌, ℕ, ◌+◌, ◌<◌, ◌≤◌, List, [], ◌++◌, append-nil, length, slice_get, All, Contains, Option, Some, None, option_map, false, refl, sym, ap, subst, ◌∙◌, arith}
use Rattle.std.specs.List.{filter_map, flat_map}
use Rattle.std.specs.Option.{MatchOption, option_and_then, option_map_or, unwrap_or}
use Rattle.std.proofs.lemmas.List.FromFn.{get_or-map-range_with_len, length-map-range_with_len}
use Rattle.std.proofs.lemmas.Option.{same_Some, slice_get_within}
use Rattle.emc_base.specs.Lists.{At, AreApart}
use Rattle.emc_base.proofs.Lists.{all_from_members}
use Rattle.emc_base.proofs.Mapped.{contains_at}
use Rattle.round_trip.specs.Words.{EntityModel, EntityType, PropId, TypeId, key_props}
use Rattle.round_trip.specs.soundness.Kinds.{IsKeyKind}
use Rattle.edm_types.specs.Forest.{type_numbered}
use Rattle.round_trip.specs.soundness.models.Inheritance.{HasInheritedKey, IsKeyProp, IsRootKey, declared_props, prop_numbered}
use Rattle.graphs.specs.base_chains.Chains.{IsAncestor}
use Rattle.emc_base.proofs.Members.{contains_nil}
use Rattle.graphs.proofs.base_chains.orders.Orders.{place_of_member}
use Rattle.groupings.specs.name_places.GivenNames.{first_place}
use Rattle.groupings.proofs.name_places.FirstPlaces.{first_has, first_upto}
use Rattle.csdl_names.specs.declared.csdl_lists.raw.RawModel.{RawModel}
use Rattle.csdl_names.specs.declared.csdl_lists.raw.RawProp.{RawProp}
use Rattle.csdl_names.specs.declared.csdl_lists.raw.RawType.{RawType}
use Rattle.csdl_meaning.specs.Kinds.{kind_of}
use Rattle.csdl_meaning.specs.Meaning.{IsMeant, base_in, chain_in, declared_before, declared_by, own_key, own_props, prop_named, prop_of}
use Rattle.csdl_meaning.proofs.types.Bases.{along_chain, base_inside, raw_at}
use Rattle.emc_base.proofs.Joined.{found_apart, found_length, in_flat_map, in_found, none_long}
use Rattle.csdl_meaning.proofs.types.Props.{declared_in, has_at, prop_at}

-- the names of a type's key; none where it has no key
abbrev pub key_names : RawType → List (List ℕ)
key_names type = unwrap_or type.key []

-- what stands at this place of the document's properties is the property that the type declares at its place
pub record IsNamed (raw : RawModel) (i : ℕ) (name : List ℕ) (prop : PropId) : Type 0 where
  pub place : ℕ
  pub declared : RawProp
  pub here : At (declared_by raw i) place declared
  pub is_name : declared.name ≡ name
  pub is_first : first_place (λ prop. prop.name) (declared_by raw i) name ≡ Some place
  pub is_id : prop_numbered (declared_before raw i + place) ≡ prop

module _ (raw : RawModel) where
  -- what a name of a key finds
  pub named : (i : ℕ) (name : List ℕ) (prop : PropId) → prop_named raw i name ≡ Some prop → IsNamed raw i name prop
  named i name prop is =
      let found = map_some (λ k. prop_numbered (declared_before raw i + k)) (first_place (λ prop. prop.name) (declared_by raw i) name) prop is in
      let first = first_has (λ prop. prop.name) (declared_by raw i) name found.0 found.1 in
      record { place = found.0; declared = first.0; here = first.1; is_name = first.2; is_first = found.1; is_id = found.2 }

  -- the property that has a name is one that the type declares
  pub named_own : (i : ℕ) (name : List ℕ) (prop : PropId) → prop_named raw i name ≡ Some prop → Contains (own_props raw i) prop
  named_own i name prop is =
      let n = named i name prop is in
      let inside = slice_get_within (declared_by raw i) n.place n.declared n.here in (
        n.place,
        subst (λ count. n.place < count) (sym (length-map-range_with_len prop_numbered (declared_before raw i) (length (declared_by raw i)))) inside,
        get_or-map-range_with_len prop_numbered (declared_before raw i) (length (declared_by raw i)) n.place (declared_before raw i + n.place) prop inside refl ∙ n.is_id,
      )

  -- different names have different properties
  named_once : (i : ℕ) (one other : List ℕ) (prop : PropId) → prop_named raw i one ≡ Some prop → prop_named raw i other ≡ Some prop → one ≡ other
  named_once i one other prop is_one is_other =
      let m = named i one prop is_one in
      let n = named i other prop is_other in
      let same : declared_before raw i + m.place ≡ declared_before raw i + n.place = ap (λ (prop : PropId). prop.index) (m.is_id ∙ sym n.is_id) in
      let place : m.place ≡ n.place = omega arith in
      let declared : m.declared ≡ n.declared = same_Some m.declared n.declared (sym m.here ∙ ap (slice_get (declared_by raw i)) place ∙ n.here) in
      sym m.is_name ∙ ap (λ (prop : RawProp). prop.name) declared ∙ n.is_name

  -- the properties that a type declares
  pub declared_is : (i : ℕ) (type : RawType) → At raw.types i type → declared_by raw i ≡ type.props
  declared_is i type here = ap (λ (found : Option RawType). option_map_or (λ type. type.props) found []) here

  -- the key that a type declares, by the names of its key
  pub own_key_is : (i : ℕ) (type : RawType) → At raw.types i type → own_key raw i ≡ filter_map (prop_named raw i) (key_names type)
  own_key_is i type here = ap (λ (found : Option RawType). filter_map (prop_named raw i) (unwrap_or (option_and_then (λ type. type.key) found) [])) here

  -- a property of the key that a type declares has one of its names
  pub key_named : (i : ℕ) (prop : PropId) → Contains (own_key raw i) prop → (name : List ℕ) × (prop_named raw i name ≡ Some prop)
  key_named i prop has =
      let found = in_found (prop_named raw i) (unwrap_or (option_and_then (λ type. type.key) (slice_get raw.types i)) []) prop has in
      (found.0, found.2)

  module _ (model : EntityModel) (meant : IsMeant raw model) where
    -- V7, V9: the key of a type without a base
    pub root_key : (t : TypeId) (type : RawType) (names : List (List ℕ)) → At raw.types t.index type → type.key ≡ Some names → names ≢ [] → length names ≤ 4 → AreApart names
        → ((name : List ℕ) → Contains names name → (prop : RawProp) × Contains type.props prop × (prop.name ≡ name)) → IsRootKey model t (own_key raw t.index)
    root_key t type names here is some few apart declared = let P : List PropId → Type 0 = λ key. IsRootKey model t key in subst P (sym own) (record {
      some = λ none. some (none_long names (sym long ∙ ap length none));
      few = let same : length (filter_map (prop_named raw t.index) names) ≡ length names = long in omega (arith, same, few);
      once = found_apart (prop_named raw t.index) (named_once t.index) names apart;
      own = all_from_members (Contains (declared_props model t)) (filter_map (prop_named raw t.index) names) (λ prop has.
          let found = in_found (prop_named raw t.index) names prop has in
          let Q : List PropId → Type 0 = λ props. Contains props prop in
          subst Q (sym (declared_in raw model meant t)) (named_own t.index found.0 prop found.2));
    })
      where
        own : own_key raw t.index ≡ filter_map (prop_named raw t.index) names
        own = own_key_is t.index type here ∙ ap (λ (key : Option (List (List ℕ))). filter_map (prop_named raw t.index) (unwrap_or key [])) is

        all : (name : List ℕ) → Contains names name → (prop : PropId) × (prop_named raw t.index name ≡ Some prop)
        all name has =
            let found = declared name has in
            let P : List RawProp → Type 0 = λ props. At props found.1.0 found.0 in
            let first = first_upto (λ (prop : RawProp). prop.name) (declared_by raw t.index) name found.1.0 found.0
            (subst P (sym (declared_is t.index type here)) (place_of_member type.props found.0 found.1)) found.2 in
            (prop_numbered (declared_before raw t.index + first.0), ap (option_map (λ k. prop_numbered (declared_before raw t.index + k))) first.1)

        long : length (filter_map (prop_named raw t.index) names) ≡ length names
        long = found_length (prop_named raw t.index) names all

    -- V9: a type's key is that of its base type, or its own
    pub inherited_key : ((i : ℕ) → ¬ IsAncestor (base_in raw) i i)
        → ((t : TypeId) (type : RawType) → At raw.types t.index type → base_in raw t.index ≡ None → IsRootKey model t (own_key raw t.index))
        → ((i j : ℕ) (type : RawType) → At raw.types i type → base_in raw i ≡ Some j → own_key raw i ≡ [])
        → (t : TypeId) (type : EntityType) → At model.types t.index type → HasInheritedKey model t type
    inherited_key never roots others t type here =
        let from = raw_at raw model meant t.index type here in
        let P : EntityType → Type 0 = λ type. HasInheritedKey model t type in
        subst P (sym from.2) (by from.0 from.1 (base_in raw t.index) refl (along_chain raw (own_key raw) never t.index (slice_get_within raw.types t.index from.0 from.1)))
      where
        by : (from : RawType) → At raw.types t.index from → (found : Option ℕ) → base_in raw t.index ≡ found
            → flat_map (own_key raw) (chain_in raw t.index) ≡ option_map_or (λ j. flat_map (own_key raw) (chain_in raw j)) (base_in raw t.index) [] ++ own_key raw t.index
            → MatchOption (option_map type_numbered found) (IsRootKey model t (flat_map (own_key raw) (chain_in raw t.index))) (λ base. flat_map (own_key raw) (chain_in raw t.index) ≡ key_props model base)
        by from at None is key =
            let P : List PropId → Type 0 = λ key. IsRootKey model t key in
            subst P (sym (key ∙ ap (λ (o : Option ℕ). option_map_or (λ j. flat_map (own_key raw) (chain_in raw j)) o [] ++ own_key raw t.index) is)) (roots t from at is)
        by from at (Some j) is key =
            key
            ∙ ap (λ (o : Option ℕ). option_map_or (λ j. flat_map (own_key raw) (chain_in raw j)) o [] ++ own_key raw t.index) is
            ∙ ap (λ own. flat_map (own_key raw) (chain_in raw j) ++ own) (others t.index j from at is)
            ∙ append-nil (flat_map (own_key raw) (chain_in raw j))
            ∙ sym (has_at raw model meant (λ type. type.key) j (base_inside raw t.index j is)).2

    -- V10: each property of a key is what a property of a key has to be
    pub key_props_sound : ((i : ℕ) (type : RawType) (prop : RawProp) → At raw.types i type → Contains (key_names type) prop.name → Contains type.props prop
        → IsKeyKind (kind_of raw prop) × (prop.nullable ≡ false))
        → (t : TypeId) (type : EntityType) → At model.types t.index type → All (IsKeyProp model) type.key
    key_props_sound good t type here =
        let from = raw_at raw model meant t.index type here in
        let P : EntityType → Type 0 = λ type. All (IsKeyProp model) type.key in
        subst P (sym from.2) (all_from_members (IsKeyProp model) (flat_map (own_key raw) (chain_in raw t.index)) (λ prop has.
        let found = in_flat_map (own_key raw) (chain_in raw t.index) prop has in
        by found.0 prop (slice_get raw.types found.0) refl found.2))
      where
        by : (i : ℕ) (prop : PropId) (found : Option RawType) → slice_get raw.types i ≡ found → Contains (own_key raw i) prop → IsKeyProp model prop
        by i prop None none has = absurd (contains_nil prop (let P : List PropId → Type 0 = λ props. Contains props prop in
            subst P (ap (λ (found : Option RawType). filter_map (prop_named raw i) (unwrap_or (option_and_then (λ type. type.key) found) [])) none) has))
        by i prop (Some from) at has =
            let P : List PropId → Type 0 = λ props. Contains props prop in
            let name = in_found (prop_named raw i) (key_names from) prop (subst P (own_key_is i from at) has) in
            let n = named i name.0 prop name.2 in
            let Q : List RawProp → Type 0 = λ props. At props n.place n.declared in
            let R : List ℕ → Type 0 = λ name. Contains (key_names from) name in
            let is_good = good i from n.declared at (subst R (sym n.is_name) name.1) (contains_at from.props n.place n.declared (subst Q (declared_is i from at) n.here)) in
            record {
              declared = prop_of raw i n.declared;
              is_declared = (λ k. slice_get (meant.props k) (sym n.is_id k).index) ∙ prop_at raw i n.place n.declared n.here;
              kind = is_good.0;
              needed = is_good.1;
            }
