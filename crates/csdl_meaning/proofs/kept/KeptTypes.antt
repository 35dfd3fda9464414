-- What V8 to V13 give of types and enumerations, where they are kept.
use Rattle.std.proofs.Common.{◌≡◌, ⊎_elim, inl, inr, ℕ, List, [], ◌∷◌, map, Bool, true, false, Any, Contains, Option, Some, None, codes, refl, sym, subst}
use Rattle.std.specs.Option.{MatchOption, unwrap_or}
use Rattle.std.proofs.lemmas.Bool.{both_ways}
use Rattle.std.proofs.lemmas.List.Elements.{Contains-append_cases}
use Rattle.emc_base.specs.Lists.{At}
use Rattle.emc_base.specs.declared.value.Under.{Under}
use Rattle.emc_base.proofs.Lists.{item_at}
use Rattle.json_form.specs.declared.pointer.Step.TheVariants.{Item, Member}
use Rattle.layouts.specs.declared.fault.Fault.{Fault}
use Rattle.layouts.specs.declared.rule.Rule.TheVariants.{Ancestors, Bound, InheritedName, KeyProperty, PropertyType, TypeKey}
use Rattle.layouts.specs.rule_places.Places.{InList}
use Rattle.round_trip.specs.soundness.Kinds.{IsKeyKind, IsSoundKind}
use Rattle.graphs.specs.base_chains.Chains.{IsAncestor}
use Rattle.emc_base.proofs.Members.{contains_nil, in_map}
use Rattle.graphs.proofs.base_chains.orders.Orders.{place_of_member}
use Rattle.csdl_names.specs.declared.csdl_lists.raw.RawEnum.{RawEnum}
use Rattle.csdl_names.specs.declared.csdl_lists.raw.RawModel.{RawModel}
use Rattle.csdl_names.specs.declared.csdl_lists.raw.RawProp.{RawProp}
use Rattle.csdl_names.specs.declared.csdl_lists.raw.RawType.{RawType}
use Rattle.csdl_names.specs.csdl_lists.References.{names_in}
use Rattle.csdl_types.specs.Inherited.{HasName, IsAncestorFault, IsInherited, IsInheritedFault}
use Rattle.csdl_types.specs.Keys.{BreaksKey, CanBeKey, IsKey, IsNoKeyPropFault}
use Rattle.csdl_types.specs.Numbers.{numbers_of, under_of}
use Rattle.csdl_types.specs.PropTypes.{BreaksBound, HasLength, IsEnumFault, IsNumberFault, IsOutside, IsPropBoundFault}
use Rattle.csdl_types.specs.Simple.{simple_of}
use Rattle.csdl_types.specs.TypeRules.{BreaksTypeRules, IsLaterFault}
use Rattle.csdl_meaning.specs.Kinds.{enum_kind, kind_of}
use Rattle.csdl_meaning.specs.Meaning.{base_in}
use Rattle.csdl_meaning.proofs.types.Bases.{above_inside}
use Rattle.layouts.proofs.rule_places.FaultPlaces.{fault_at, in_list}
use Rattle.csdl_meaning.proofs.types.Keys.{key_names}
use Rattle.emc_base.proofs.Joined.{all_from_places}
use Rattle.csdl_meaning.proofs.types.Names.{member_names}
use Rattle.csdl_meaning.proofs.types.SoundKinds.{key_kind, sound_enum}
use Rattle.csdl_meaning.proofs.lists.Stable.{for_keys, some_key}

module _ (raw : RawModel) (never : (fault : Fault) → ¬ BreaksTypeRules raw fault) where
  -- V8
  pub none_above_itself : (i : ℕ) → ¬ IsAncestor (base_in raw) i i
  none_above_itself i above =
      let type = item_at raw.types i (above_inside raw i i above) in
      never (fault_at Ancestors (Member (codes "EntityType") ∷ Item i ∷ Member (codes "BaseType") ∷ []))
      (inl (in_list (λ i type. IsAncestorFault (base_in raw) i) (codes "EntityType") raw.types i type.0 Ancestors (Member (codes "BaseType") ∷ []) type.1 (above, (refl, refl))))

  -- seen from a type, no later rule is broken
  none_of_type : (i : ℕ) (type : RawType) → At raw.types i type → (fault : Fault) → ¬ IsLaterFault (names_in raw) raw i type fault
  none_of_type i type here fault broken = never (fault_at fault.rule (Member (codes "EntityType") ∷ Item i ∷ fault.place))
      (inr (inl (in_list (IsLaterFault (names_in raw) raw) (codes "EntityType") raw.types i type fault.rule fault.place here broken)))

  -- nor from an enumeration
  none_of_enum : (i : ℕ) (enum : RawEnum) → At raw.enums i enum → (fault : Fault) → ¬ IsEnumFault enum fault
  none_of_enum i enum here fault broken = never (fault_at fault.rule (Member (codes "EnumType") ∷ Item i ∷ fault.place))
      (inr (inr (in_list (λ i. IsEnumFault) (codes "EnumType") raw.enums i enum fault.rule fault.place here broken)))

  module _ (i : ℕ) (type : RawType) (here : At raw.types i type) where
    -- V9
    fits : ¬ BreaksKey type.base type.key
    fits broken = none_of_type i type here (fault_at TypeKey (Member (codes "Key") ∷ [])) (inl (broken, (refl, refl)))

    -- V9: a type that names no base type has a key
    pub root_has_key : type.base ≡ None → (names : List (List ℕ)) × (type.key ≡ Some names) × IsKey names
    root_has_key none = by type.key refl (let P : Option (List ℕ) → Type 0 = λ base. ¬ BreaksKey base type.key in subst P none fits)
      where
        by : (key : Option (List (List ℕ))) → type.key ≡ key → ¬ BreaksKey None type.key → (names : List (List ℕ)) × (type.key ≡ Some names) × IsKey names
        by None is good = absurd (good (let P : Option (List (List ℕ)) → Type 0 = λ key. BreaksKey None key in subst P (sym is) tt))
        by (Some names) is good = (names, is, some_key names (let P : Option (List (List ℕ)) → Type 0 = λ key. ¬ BreaksKey None key in subst P is good))

    -- V9: a type that names one has none
    pub derived_has_none : (base : List ℕ) → type.base ≡ Some base → type.key ≡ None
    derived_has_none base is = by type.key refl
      where
        by : (key : Option (List (List ℕ))) → type.key ≡ key → type.key ≡ None
        by None none = none
        by (Some names) has = absurd (fits (let P : Option (List ℕ) → Option (List (List ℕ)) → Type 0 = λ base key. BreaksKey base key in
            subst (λ base. P base type.key) (sym is) (subst (P (Some base)) (sym has) tt)))

    -- V10
    pub fits_key : (prop : RawProp) → Contains (key_names type) prop.name → Contains type.props prop → IsKeyKind (kind_of raw prop) × (prop.nullable ≡ false)
    fits_key prop named has = (key_kind raw prop (for_keys (simple_of prop.kind) (λ no. good (λ key. no key.simple))), not_null prop.nullable refl)
      where
        good : ¬ (¬ CanBeKey prop)
        good bad = by type.key refl
          where
            by : (key : Option (List (List ℕ))) → type.key ≡ key → ⊥
            by None none = contains_nil prop.name (let P : Option (List (List ℕ)) → Type 0 = λ key. Contains (unwrap_or key []) prop.name in subst P none named)
            by (Some names) is = none_of_type i type here (fault_at KeyProperty (Member (codes "Property") ∷ Item has.0 ∷ []))
                (inr (inl (let P : Option (List (List ℕ)) → Type 0 = λ key. MatchOption key ⊥ (λ names. InList (codes "Property") (λ k. IsNoKeyPropFault names) type.props (fault_at KeyProperty (Member (codes "Property") ∷ Item has.0 ∷ []))) in
                subst P (sym is) (in_list (λ k. IsNoKeyPropFault names) (codes "Property") type.props has.0 prop KeyProperty [] (place_of_member type.props prop has)
                (let Q : Option (List (List ℕ)) → Type 0 = λ key. Contains (unwrap_or key []) prop.name in (subst Q is named, bad), (refl, refl))))))

        not_null : (nullable : Bool) → prop.nullable ≡ nullable → prop.nullable ≡ false
        not_null false is = is
        not_null true is = absurd (good (λ key. let needed : prop.nullable ≡ false = key.needed in both_ways prop.nullable needed is))

    -- V11
    pub none_inherited : (j : ℕ) (other : RawType) → At raw.types j other → IsAncestor (base_in raw) i j
        → (name : List ℕ) → Contains (member_names type) name → ¬ Contains (member_names other) name
    none_inherited j other there above name has has_too = ⊎_elim
        (λ (in_props : Contains (map (λ prop. prop.name) type.props) name).
        let prop = in_map (λ prop. prop.name) type.props name in_props in
        none_of_type i type here (fault_at InheritedName (Member (codes "Property") ∷ Item prop.1.0 ∷ Member (codes "Name") ∷ []))
        (inr (inr (inl (inl (in_list (λ k prop. IsInheritedFault (IsAncestor (base_in raw) i) raw.types prop.name) (codes "Property") type.props prop.1.0 prop.0 InheritedName (Member (codes "Name") ∷ [])
        (place_of_member type.props prop.0 prop.1) (of_name prop.0.name prop.2, (refl, refl))))))))
        (λ (in_navs : Contains (map (λ nav. nav.name) type.navs) name).
        let nav = in_map (λ nav. nav.name) type.navs name in_navs in
        none_of_type i type here (fault_at InheritedName (Member (codes "NavigationProperty") ∷ Item nav.1.0 ∷ Member (codes "Name") ∷ []))
        (inr (inr (inl (inr (in_list (λ k nav. IsInheritedFault (IsAncestor (base_in raw) i) raw.types nav.name) (codes "NavigationProperty") type.navs nav.1.0 nav.0 InheritedName (Member (codes "Name") ∷ [])
        (place_of_member type.navs nav.0 nav.1) (of_name nav.0.name nav.2, (refl, refl))))))))
        (Contains-append_cases (map (λ prop. prop.name) type.props) (map (λ nav. nav.name) type.navs) name has)
      where
        -- a member has a name that stands among the names of members
        any_named : {X : Type 0} (name_in : X → List ℕ) (items : List X) → Contains (map name_in items) name → Any (λ item. name_in item ≡ name) items
        any_named name_in items there = let item = in_map name_in items name there in (item.1.0, item.0, item.1.1, item.1.2, item.2)

        has_name : HasName other name
        has_name = ⊎_elim
            (λ (in_props : Contains (map (λ prop. prop.name) other.props) name). inl (any_named (λ prop. prop.name) other.props in_props))
            (λ (in_navs : Contains (map (λ nav. nav.name) other.navs) name). inr (any_named (λ nav. nav.name) other.navs in_navs))
            (Contains-append_cases (map (λ prop. prop.name) other.props) (map (λ nav. nav.name) other.navs) name has_too)

        of_name : (mine : List ℕ) → mine ≡ name → IsInherited (IsAncestor (base_in raw) i) raw.types mine
        of_name mine same = let P : List ℕ → Type 0 = λ name. HasName other name in
            record { ancestor = j; above = above; type = other; is_type = there; has = subst P (sym same) has_name }

    -- V13
    pub fits_bound : (prop : RawProp) → Contains type.props prop → ¬ BreaksBound (HasLength (simple_of prop.kind)) prop.bound
    fits_bound prop has broken =
        none_of_type i type here (fault_at Bound (Member (codes "Property") ∷ Item has.0 ∷ Member (codes "MaxLength") ∷ []))
        (inr (inr (inr (inr (in_list (λ k. IsPropBoundFault) (codes "Property") type.props has.0 prop Bound (Member (codes "MaxLength") ∷ [])
        (place_of_member type.props prop has) (broken, (refl, refl)))))))

  -- V12
  pub fits_enum : (i : ℕ) (enum : RawEnum) → At raw.enums i enum → IsSoundKind (enum_kind enum)
  fits_enum i enum here = by (under_of enum) refl
    where
      by : (found : Option Under) → under_of enum ≡ found → IsSoundKind (enum_kind enum)
      by None none = absurd (none_of_enum i enum here (fault_at PropertyType (Member (codes "UnderlyingType") ∷ [])) (inl (none, (refl, refl))))
      by (Some u) is = sound_enum enum u is
          (λ none. none_of_enum i enum here (fault_at PropertyType (Member (codes "Member") ∷ [])) (inr (inl (none, (refl, refl)))))
          (all_from_places (λ number. ¬ IsOutside u number) (numbers_of enum) (λ k number there outside.
          let P : Option Under → Type 0 = λ found. MatchOption found ⊥ (λ u. InList (codes "Member") (λ k. IsNumberFault u) (numbers_of enum) (fault_at PropertyType (Member (codes "Member") ∷ Item k ∷ []))) in
          none_of_enum i enum here (fault_at PropertyType (Member (codes "Member") ∷ Item k ∷ []))
          (inr (inr (subst P (sym is) (in_list (λ k. IsNumberFault u) (codes "Member") (numbers_of enum) k number PropertyType [] there (outside, (refl, refl))))))))
