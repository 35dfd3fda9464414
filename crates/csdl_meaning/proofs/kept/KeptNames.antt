-- What V6 and V7 give of types, where they are kept.
use Rattle.layouts.proofs.rule_places.FaultPlaces.{repeated_in, fault_at, in_list}
use Rattle.std.proofs.Common.{◌≡◌, inl, inr, ℕ, List, [], ◌∷◌, map, Contains, Option, Some, None, codes, refl, sym, ap, subst, ◌∙◌}
use Rattle.std.specs.Option.{MatchOption, option_and_then}
use Rattle.emc_base.specs.Lists.{At, AreApart}
use Rattle.emc_base.proofs.Mapped.{contains_at}
use Rattle.graphs.proofs.base_chains.orders.Orders.{place_of_member}
use Rattle.json_form.specs.declared.pointer.Step.TheVariants.{Item, Member}
use Rattle.layouts.specs.declared.fault.Fault.{Fault}
use Rattle.layouts.specs.declared.rule.Rule.TheVariants.{NamedOnce, Resolves}
use Rattle.layouts.specs.rule_places.Places.{IsAt}
use Rattle.groupings.specs.name_places.GivenNames.{IsGivenBefore, first_place}
use Rattle.groupings.proofs.name_places.FirstPlaces.{first_has, given_nowhere}
use Rattle.csdl_names.specs.declared.csdl_lists.raw.RawModel.{RawModel}
use Rattle.csdl_names.specs.declared.csdl_lists.raw.RawProp.{RawProp}
use Rattle.csdl_names.specs.declared.csdl_lists.raw.RawType.{RawType}
use Rattle.csdl_names.specs.csdl_lists.References.{names_in}
use Rattle.csdl_names.specs.Repeated.{IsRepeated, IsRepeatedInType}
use Rattle.layouts.specs.rule_places.Names.{IsGivenAgain, IsRepeatedIn, NamesNothing}
use Rattle.csdl_names.specs.Unresolved.{IsUnresolved, IsUnresolvedInKey, IsUnresolvedInType, IsUnresolvedProp, LacksProp, root}
use Rattle.csdl_meaning.specs.Meaning.{base_in}
use Rattle.csdl_meaning.proofs.types.Names.{member_names, members_apart}

module _ (raw : RawModel) where
  -- V6
  module _ (never : (fault : Fault) → ¬ IsRepeated raw fault) where
    -- no type has the name of one before it
    pub types_once : (i : ℕ) (type : RawType) → At raw.types i type → ¬ IsGivenBefore (λ type. type.name) raw.types i type
    types_once i type here given = never (fault_at NamedOnce (Member (codes "EntityType") ∷ Item i ∷ Member (codes "Name") ∷ []))
        (inl (inr (inl (repeated_in (λ type. type.name) (map (λ association. association.name) raw.associations) (codes "EntityType") (codes "Name") raw.types i type here (inr given)))))

    -- seen from a type, nothing is repeated
    none_repeated : (i : ℕ) (type : RawType) → At raw.types i type → (fault : Fault) → ¬ IsRepeatedInType i type fault
    none_repeated i type here fault broken = never (fault_at fault.rule (Member (codes "EntityType") ∷ Item i ∷ fault.place))
        (inr (inr (inl (in_list IsRepeatedInType (codes "EntityType") raw.types i type fault.rule fault.place here broken))))

    -- a type's members have different names
    pub members_once : (i : ℕ) (type : RawType) → At raw.types i type → AreApart (member_names type)
    members_once i type here = members_apart type
        (λ k nav at given. none_repeated i type here (fault_at NamedOnce (Member (codes "NavigationProperty") ∷ Item k ∷ Member (codes "Name") ∷ []))
        (inl (repeated_in (λ nav. nav.name) [] (codes "NavigationProperty") (codes "Name") type.navs k nav at (inr given))))
        (λ k prop at given. again k prop at (inr given))
        (λ k prop at has. again k prop at (inl has))
      where
        again : (k : ℕ) (prop : RawProp) → At type.props k prop → ¬ IsGivenAgain (λ prop. prop.name) (map (λ nav. nav.name) type.navs) type.props k prop
        again k prop at given = none_repeated i type here (fault_at NamedOnce (Member (codes "Property") ∷ Item k ∷ Member (codes "Name") ∷ []))
            (inr (repeated_in (λ prop. prop.name) (map (λ nav. nav.name) type.navs) (codes "Property") (codes "Name") type.props k prop at given))

  -- V7
  module _ (never : (fault : Fault) → ¬ IsUnresolved raw fault) where
    -- seen from a type, everything resolves
    none_unresolved : (i : ℕ) (type : RawType) → At raw.types i type → (fault : Fault) → ¬ IsUnresolvedInType (names_in raw) raw i type fault
    none_unresolved i type here fault broken = never (fault_at fault.rule (Member (codes "EntityType") ∷ Item i ∷ fault.place))
        (inr (inl (in_list (IsUnresolvedInType (names_in raw) raw) (codes "EntityType") raw.types i type fault.rule fault.place here broken)))

    -- a type without a base type has no reference to one
    pub no_reference : (i : ℕ) (type : RawType) → At raw.types i type → base_in raw i ≡ None → type.base ≡ None
    no_reference i type here none = by type.base refl
      where
        nothing : (reference : Option (List ℕ)) → type.base ≡ reference → option_and_then (names_in raw).type_named reference ≡ None
        nothing reference is = sym (ap (option_and_then (λ type. option_and_then (names_in raw).type_named type.base)) here ∙ ap (option_and_then (names_in raw).type_named) is) ∙ none

        by : (reference : Option (List ℕ)) → type.base ≡ reference → type.base ≡ None
        by None is = is
        by (Some reference) is = absurd (none_unresolved i type here (fault_at Resolves (Member (codes "BaseType") ∷ []))
            (inl (let P : Option (List ℕ) → Type 0 = λ found. MatchOption found ⊥ (λ base. NamesNothing ((names_in raw).type_named base) (codes "BaseType") (fault_at Resolves (Member (codes "BaseType") ∷ []))) in
            subst P (sym is) (nothing (Some reference) is, (refl, refl)))))

    -- a type without a base type declares the properties of its key
    pub key_declared : (i : ℕ) (type : RawType) (names : List (List ℕ)) → At raw.types i type → type.base ≡ None → type.key ≡ Some names
        → (name : List ℕ) → Contains names name → (prop : RawProp) × Contains type.props prop × (prop.name ≡ name)
    key_declared i type names here none is name has = by (first_place (λ prop. prop.name) type.props name) refl
      where
        not_lacking : ¬ LacksProp (names_in raw) raw name i
        not_lacking lacks = none_unresolved i type here (fault_at Resolves (Member (codes "Key") ∷ Item has.0 ∷ []))
            (inr (inl (let P : Option (List (List ℕ)) → Type 0 = λ key. IsUnresolvedInKey (names_in raw) raw i key (fault_at Resolves (Member (codes "Key") ∷ Item has.0 ∷ [])) in
            subst P (sym is) (in_list (IsUnresolvedProp (names_in raw) raw i) (codes "Key") names has.0 name Resolves [] (place_of_member names name has) (lacks, (refl, refl))))))

        by : (found : Option ℕ) → first_place (λ prop. prop.name) type.props name ≡ found → (prop : RawProp) × Contains type.props prop × (prop.name ≡ name)
        by None nowhere = absurd (not_lacking (root i type here none
            (λ declares. given_nowhere (λ prop. prop.name) type.props name declares.0 declares.1 nowhere (place_of_member type.props declares.1 (declares.0, declares.2, declares.3)) declares.4)))
        by (Some k) found = let first = first_has (λ prop. prop.name) type.props name k found in (first.0, contains_at type.props k first.0 first.1, first.2)
