-- Names: those of types, and those of the members of a type. V6, V11.
use Rattle.std.proofs.Common.{◌≡◌, ◌≢◌, ◌==◌, ℕ, List, [], ◌++◌, map, filter, All, Contains, Option, sym, ap, subst, ◌∙◌}
use Rattle.std.specs.List.{enumerate_from}
use Rattle.std.specs.Option.{option_map_or}
use Rattle.std.proofs.lemmas.Simd.{map-map}
use Rattle.std.proofs.lemmas.List.Elements.{All-map}
use Rattle.emc_base.specs.Lists.{At, AreApart}
use Rattle.emc_base.proofs.Lists.{all_from_members}
use Rattle.emc_base.proofs.Mapped.{map-enumerated}
use Rattle.round_trip.specs.Words.{EntityModel, EntityType, Prop, TypeId}
use Rattle.round_trip.specs.soundness.models.ModelNames.{HasDistinctMembers, own_names}
use Rattle.graphs.specs.base_chains.Chains.{IsAncestor}
use Rattle.groupings.specs.name_places.GivenNames.{IsGivenBefore}
use Rattle.groupings.proofs.name_places.FirstPlaces.{names_apart}
use Rattle.csdl_names.specs.declared.csdl_lists.raw.RawModel.{RawModel}
use Rattle.csdl_names.specs.declared.csdl_lists.raw.RawNav.{RawNav}
use Rattle.csdl_names.specs.declared.csdl_lists.raw.RawProp.{RawProp}
use Rattle.csdl_names.specs.declared.csdl_lists.raw.RawType.{RawType}
use Rattle.csdl_meaning.specs.Meaning.{IsMeant, base_in, nav_of, type_of}
use Rattle.csdl_meaning.proofs.types.Bases.{above, raw_at}
use Rattle.emc_base.proofs.Joined.{all_from_places, apart-append, apart-map}
use Rattle.csdl_meaning.proofs.types.Props.{own_prop_names}

-- the names of a type's properties and navigation properties
abbrev pub member_names : RawType → List (List ℕ)
member_names type = map (λ prop. prop.name) type.props ++ map (λ nav. nav.name) type.navs

-- the members of a type have different names where no navigation property has the name of one before it, and no property that of a navigation
-- property or of a property before it
pub members_apart : (type : RawType)
    → ((k : ℕ) (nav : RawNav) → At type.navs k nav → ¬ IsGivenBefore (λ nav. nav.name) type.navs k nav)
    → ((k : ℕ) (prop : RawProp) → At type.props k prop → ¬ IsGivenBefore (λ prop. prop.name) type.props k prop)
    → ((k : ℕ) (prop : RawProp) → At type.props k prop → ¬ Contains (map (λ nav. nav.name) type.navs) prop.name)
    → AreApart (member_names type)
members_apart type navs props both = apart-append (λ one other. one ≢ other) (map (λ prop. prop.name) type.props) (map (λ nav. nav.name) type.navs)
    (apart-map (λ prop. prop.name) type.props (names_apart (λ prop. prop.name) type.props props))
    (apart-map (λ nav. nav.name) type.navs (names_apart (λ nav. nav.name) type.navs navs))
    (All-map (λ name. All (λ other. name ≢ other) nav_names) (λ prop. prop.name) type.props
    (all_from_places (λ prop. All (λ other. prop.name ≢ other) nav_names) type.props
    (λ k prop here. all_from_members (λ other. prop.name ≢ other) nav_names
    (λ other has same. both k prop here (let P : List ℕ → Type 0 = λ name. Contains nav_names name in subst P (sym same) has)))))
  where
    nav_names : List (List ℕ)
    nav_names = map (λ nav. nav.name) type.navs

module _ (raw : RawModel) (model : EntityModel) (meant : IsMeant raw model) where
  -- V6: types have different names where no type has the name of one before it
  pub types_apart : ((i : ℕ) (type : RawType) → At raw.types i type → ¬ IsGivenBefore (λ type. type.name) raw.types i type) → AreApart (map (λ type. type.name) model.types)
  types_apart never =
      let P : List (List ℕ) → Type 0 = λ names. AreApart names in
      subst P (sym (ap (map (λ (type : EntityType). type.name)) meant.types
      ∙ map-map (λ (type : EntityType). type.name) (λ (place : ℕ × RawType). type_of raw place.0 place.1) (enumerate_from 0 raw.types)
      ∙ map-enumerated (λ (type : RawType). type.name) 0 raw.types))
      (apart-map (λ type. type.name) raw.types (names_apart (λ type. type.name) raw.types never))

  -- the names of a type's members are those that the document gives
  own_names_are : (t : TypeId) (from : RawType) → At raw.types t.index from → own_names model t (type_of raw t.index from) ≡ member_names from
  own_names_are t from here = λ k. props k ++ map-map (λ nav. nav.name) (nav_of raw) from.navs k
    where
      props : map (λ prop. prop.name) (filter (λ prop. prop.owner.index == t.index) model.props) ≡ map (λ prop. prop.name) from.props
      props =
          ap (λ (list : List Prop). map (λ prop. prop.name) (filter (λ prop. prop.owner.index == t.index) list)) meant.props
          ∙ own_prop_names raw t.index
          ∙ ap (λ (found : Option RawType). map (λ prop. prop.name) (option_map_or (λ type. type.props) found [])) here

  -- V6, V11
  pub distinct_members : ((i : ℕ) (type : RawType) → At raw.types i type → AreApart (member_names type))
      → ((i j : ℕ) (type other : RawType) → At raw.types i type → At raw.types j other → IsAncestor (base_in raw) i j
      → (name : List ℕ) → Contains (member_names type) name → ¬ Contains (member_names other) name)
      → (t : TypeId) (type : EntityType) → At model.types t.index type → HasDistinctMembers model t type
  distinct_members own inherited t type here =
      let from = raw_at raw model meant t.index type here in
      let P : EntityType → Type 0 = λ type. HasDistinctMembers model t type in
      subst P (sym from.2) (record {
        own = let Q : List (List ℕ) → Type 0 = λ names. AreApart names in subst Q (sym (own_names_are t from.0 from.1)) (own t.index from.0 from.1);
        inherited = λ u ancestor up there.
            let upper = raw_at raw model meant u.index ancestor there in
            let names = own_names_are t from.0 from.1 in
            let names_above = ap (own_names model u) upper.2 ∙ own_names_are u upper.0 upper.1 in
            let Q : List (List ℕ) → List (List ℕ) → Type 0 = λ mine theirs. All (λ name. ¬ Contains theirs name) mine in
            subst (λ mine. Q mine (own_names model u ancestor)) (sym names) (subst (Q (member_names from.0)) (sym names_above)
            (all_from_members (λ name. ¬ Contains (member_names upper.0) name) (member_names from.0)
            (inherited t.index u.index from.0 upper.0 from.1 upper.1 (above raw model meant t u up))));
      })
