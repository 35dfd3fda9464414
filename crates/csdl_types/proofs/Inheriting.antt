-- Inherited names, found by the places of a type's own names.
use Rattle.std.proofs.Common.{subst, ◌≡◌, ⊎_elim, inl, inr, ℕ, ◌≤◌, List, [], codes, slice_get, Any, MatchOption, Option, Some, None, refl, sym, ap, ◌∙◌}
use Rattle.std.specs.Ordering.{nat_cmp}
use Rattle.std.proofs.lemmas.Option.{get_or_from_slice_get, slice_get-get_or, slice_get_within}
use Rattle.emc_base.specs.Lists.{At}
use Rattle.emc_base.proofs.Mapped.{contains_at}
use Rattle.graphs.proofs.base_chains.orders.Orders.{place_of_member}
use Rattle.groupings.specs.least_fault.Least.{Among, IsLeast}
use Rattle.layouts.specs.declared.fault.Fault.{Fault}
use Rattle.layouts.proofs.Walks.{among_none}
use Rattle.layouts.specs.rule_places.Places.{InItem, InItems, InList}
use Rattle.groupings.specs.name_places.GivenNames.{first_place}
use Rattle.groupings.proofs.name_places.FirstPlaces.{first_has, first_upto}
use Rattle.layouts.proofs.rule_places.Rules.{in_list_map, least_by_first}
use Rattle.csdl_names.specs.declared.csdl_lists.raw.RawType.{RawType}
use Rattle.csdl_types.specs.Inherited.{HasName, IsInNamesFault, IsInherited, IsInheritedFault}
use Rattle.csdl_types.specs.OwnNames.{DeclaresNone, IsItemAbove, IsPlaceOfName}

module _ {X : Type 0} (name_in : X → List ℕ) (items : List X) (known : List ℕ → Option ℕ) (are : known ≡ first_place name_in items) where
  known_at : (name : List ℕ) → known name ≡ first_place name_in items name
  known_at name = λ k. are k name

  -- where the name of an entry has a place, the item at the place has the name
  place_names : {Y : Type 0} (named : Y → List ℕ) (entries : List Y) (place : ℕ) → Among (λ _ entry k. known (named entry) ≡ Some k) entries place
      → (item : X) × At items place item × Any (λ entry. named entry ≡ name_in item) entries
  place_names named entries place some =
      let first = first_has name_in items (named some.item) place (sym (known_at (named some.item)) ∙ some.holds) in
      (first.0, first.1, (some.i, some.item, slice_get_within entries some.i some.item some.here, get_or_from_slice_get entries some.i some.item some.item some.here, sym first.2))

  -- where an entry has the name of an item, the name has a place, at the item or before
  name_placed : {Y : Type 0} (named : Y → List ℕ) (entries : List Y) (place : ℕ) (item : X) → At items place item → Any (λ entry. named entry ≡ name_in item) entries
      → (j : ℕ) × Among (λ _ entry k. known (named entry) ≡ Some k) entries j × (j ≤ place)
  name_placed named entries place item here (k, entry, within, is, same) =
      let first = first_upto name_in items (named entry) place item here (sym same) in (
        first.0,
        record { i = k; item = entry; here = slice_get-get_or entries k entry within ∙ ap Some is; holds = known_at (named entry) ∙ first.1 },
        first.2,
      )

  module _ (types : List RawType) (above : List ℕ) where
    -- a name of a type at one of these places is at this one
    abbrev pub IsSighted : ℕ → Type 0
    IsSighted place = Among (λ _ ancestor k. MatchOption (slice_get types ancestor) ⊥ (λ type. IsPlaceOfName known type k)) above place

    sighted_item : (place : ℕ) → IsSighted place → IsItemAbove name_in types above items place
    sighted_item place some = by (slice_get types some.item) refl some.holds
      where
        told : (type : RawType) → At types some.item type → (item : X) × At items place item × HasName type (name_in item) → IsItemAbove name_in types above items place
        told type there (item, here, has) = (item, here, record { ancestor = some.item; above = contains_at above some.i some.item some.here; type = type; is_type = there; has = has })

        by : (o : Option RawType) → slice_get types some.item ≡ o → MatchOption o ⊥ (λ type. IsPlaceOfName known type place) → IsItemAbove name_in types above items place
        by None is holds = absurd holds
        by (Some type) is holds = told type is (⊎_elim
            (λ prop. let found = place_names (λ p. p.name) type.props place prop in (found.0, found.1, inl found.2))
            (λ nav. let found = place_names (λ n. n.name) type.navs place nav in (found.0, found.1, inr found.2))
            holds)

    item_sighted : (place : ℕ) → IsItemAbove name_in types above items place → (j : ℕ) × IsSighted j × (j ≤ place)
    item_sighted place (item, here, inherited) = told (⊎_elim
        (λ prop. let found = name_placed (λ p. p.name) inherited.type.props place item here prop in (found.0, inl found.1, found.2))
        (λ nav. let found = name_placed (λ n. n.name) inherited.type.navs place item here nav in (found.0, inr found.1, found.2))
        inherited.has)
      where
        told : (j : ℕ) × IsPlaceOfName known inherited.type j × (j ≤ place) → (j : ℕ) × IsSighted j × (j ≤ place)
        told (j, is, before) = (
          j,
          record {
            i = inherited.above.0;
            item = inherited.ancestor;
            here = place_of_member above inherited.ancestor inherited.above;
            holds = at (slice_get types inherited.ancestor) inherited.is_type is;
          },
          before,
        )
          where
            at : (o : Option RawType) → o ≡ Some inherited.type → IsPlaceOfName known inherited.type j → MatchOption o ⊥ (λ type. IsPlaceOfName known type j)
            at o there holds = subst (λ (p : Option RawType). MatchOption p ⊥ (λ type. IsPlaceOfName known type j)) (sym there) holds

    -- the first place of such a name is the first item that has an inherited one
    pub first_sighted : (found : Option ℕ) → IsLeast nat_cmp IsSighted found → IsLeast nat_cmp (IsItemAbove name_in types above items) found
    first_sighted found = least_by_first IsSighted (IsItemAbove name_in types above items) found sighted_item item_sighted

-- what stands above the one way stands above the other way: a name is inherited either way
pub inherited_same : (A B : ℕ → Type 0) → ((i : ℕ) → A i → B i) → (types : List RawType) (type : RawType) (fault : Fault) → IsInNamesFault A types type fault
    → IsInNamesFault B types type fault
inherited_same A B to types type fault = ⊎_elim
    (λ some. inl (in_list_map (codes "Property") (λ k prop. IsInheritedFault A types prop.name) (λ k prop. IsInheritedFault B types prop.name) type.props
    (λ k prop inside holds. (moved prop.name holds.0, holds.1)) fault some))
    (λ some. inr (in_list_map (codes "NavigationProperty") (λ k nav. IsInheritedFault A types nav.name) (λ k nav. IsInheritedFault B types nav.name) type.navs
    (λ k nav inside holds. (moved nav.name holds.0, holds.1)) fault some))
  where
    moved : (name : List ℕ) → IsInherited A types name → IsInherited B types name
    moved name it = record { ancestor = it.ancestor; above = to it.ancestor it.above; type = it.type; is_type = it.is_type; has = it.has }

-- nothing is wrong with the items of an empty list
none_listed : {X : Type 0} (member : List ℕ) (P : ℕ → X → Fault → Type 0) (items : List X) → items ≡ [] → (fault : Fault) → ¬ InList member P items fault
none_listed {X} member P items none fault some =
    let inside : Fault = record { rule = fault.rule; place = some.rest } in
    let Q : List X → Type 0 = λ xs. InItems P xs inside in
    among_none (InItem P) inside (subst Q none some.holds)

-- a type without a name of its own has none that is inherited
pub none_declared : (IsAbove : ℕ → Type 0) (types : List RawType) (type : RawType) → DeclaresNone type → (fault : Fault) → ¬ IsInNamesFault IsAbove types type fault
none_declared IsAbove types type none fault = ⊎_elim
    (none_listed (codes "Property") (λ k prop. IsInheritedFault IsAbove types prop.name) type.props none.0 fault)
    (none_listed (codes "NavigationProperty") (λ k nav. IsInheritedFault IsAbove types nav.name) type.navs none.1 fault)
