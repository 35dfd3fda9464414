-- Where the properties of each type begin, and the ids of properties by their names.
use Rattle.std.proofs.Common.{◌≡◌, ⊎_elim, Contains, ℕ, zero, suc, ◌+◌, ◌<◌, List, [], ◌∷◌, ◌++◌, get_or, length, map, take, slice_get, sum_by, Option, Some, None, option_map, refl, sym, ap, subst, ◌∙◌, zero-add, arith}
use Rattle.std.specs.List.{flat_map, range_with_len}
use Rattle.std.specs.Option.{IfSome, option_and_then, option_map_or, option_or}
use Rattle.std.proofs.lemmas.List.Concat.{flat_map-cons}
use Rattle.std.proofs.lemmas.List.FromFn.{get_or-map-range_with_len, length-map-range_with_len}
use Rattle.std.proofs.lemmas.List.Sums.{sum_by_push}
use Rattle.std.proofs.lemmas.Option.{slice_get_within}
use Rattle.emc_base.specs.Lists.{At}
use Rattle.emc_base.proofs.Loops.{take_item}
use Rattle.round_trip.specs.Words.{PropId}
use Rattle.graphs.specs.base_chains.Chains.{IsAncestor, base_at}
use Rattle.graphs.proofs.base_chains.Chains.{closed_ancestors, in_chain}
use Rattle.emc_base.proofs.Members.{contains_head, contains_tail}
use Rattle.groupings.specs.name_places.GivenNames.{first_place}
use Rattle.csdl_names.specs.declared.csdl_lists.raw.RawModel.{RawModel}
use Rattle.csdl_names.specs.declared.csdl_lists.raw.RawType.{RawType}
use Rattle.csdl_names.specs.csdl_lists.References.{names_in}
use Rattle.csdl_names.specs.PropPlaces.{own_prop, place_of_prop, prop_of_type, prop_upto}
use Rattle.csdl_names.specs.declared.lookups.PropPlace.{PropPlace}
use Rattle.csdl_meaning.specs.Meaning.{base_in, chain_in, declared_before, own_key, own_props, prop_named, type_of}
use Rattle.csdl_meaning.proofs.types.Bases.{base_inside}
use Rattle.csdl_meaning.specs.csdl_making.Making.{AreInherited, AreStarts, chain_list, id_of_place, list_at, type_with}

module _ (raw : RawModel) where
  -- each type has a beginning, and it is where its properties begin
  pub starts_long : (starts : List ℕ) → AreStarts raw starts → length starts ≡ length raw.types
  starts_long starts are = ap (λ (noted : List ℕ). length noted) are ∙ length-map-range_with_len (declared_before raw) 0 (length raw.types)

  pub start_at : (starts : List ℕ) → AreStarts raw starts → (i d : ℕ) → i < length raw.types → get_or starts i d ≡ declared_before raw i
  start_at starts are i d inside =
      ap (λ (noted : List ℕ). get_or noted i d) are
      ∙ get_or-map-range_with_len (declared_before raw) 0 (length raw.types) i i d inside (zero-add i)

  -- one type more
  pub before_more : (i : ℕ) (type : RawType) → At raw.types i type → declared_before raw i + length type.props ≡ declared_before raw (i + 1)
  before_more i type here =
      sym (sum_by_push (λ (other : RawType). length other.props) (take i raw.types) type)
      ∙ ap (sum_by (λ (other : RawType). length other.props)) (sym (take_item raw.types i type here))

  -- the id of a property that a type declares, by its place
  pub named_is : (i : ℕ) (name : List ℕ) → option_map (id_of_place raw) (own_prop (names_in raw) raw i name) ≡ prop_named raw i name
  named_is i name = by (slice_get raw.types i)
    where
      by_place : (found : Option ℕ) → option_map (id_of_place raw) (option_map (λ k. record { owner = i; place = k }) found) ≡ option_map (λ k. id_of_place raw (record { owner = i; place = k })) found
      by_place None = refl
      by_place (Some k) = refl

      by : (type : Option RawType)
          → option_map (id_of_place raw) (option_map (λ k. record { owner = i; place = k }) (option_and_then (λ type. first_place (λ prop. prop.name) type.props name) type))
          ≡ option_map (λ k. id_of_place raw (record { owner = i; place = k })) (first_place (λ prop. prop.name) (option_map_or (λ type. type.props) type []) name)
      by None = refl
      by (Some type) = by_place (first_place (λ prop. prop.name) type.props name)

  -- a property that a type declares, or one that it has, is of a type of the document
  pub own_inside : (i : ℕ) (name : List ℕ) → IfSome (own_prop (names_in raw) raw i name) (λ place. place.owner < length raw.types)
  own_inside i name = by (slice_get raw.types i) refl
    where
      placed : i < length raw.types → (found : Option ℕ) → IfSome (option_map (λ k. record { owner = i; place = k }) found) (λ (place : PropPlace). place.owner < length raw.types)
      placed inside None = tt
      placed inside (Some k) = inside

      by : (type : Option RawType) → slice_get raw.types i ≡ type
          → IfSome (option_map (λ k. record { owner = i; place = k }) (option_and_then (λ type. place_of_prop type name) type)) (λ (place : PropPlace). place.owner < length raw.types)
      by None is = tt
      by (Some type) is = placed (slice_get_within raw.types i type is) (place_of_prop type name)

  prop_inside : (n i : ℕ) (name : List ℕ) → IfSome (prop_upto (names_in raw) raw n i name) (λ place. place.owner < length raw.types)
  prop_inside zero i name = tt
  prop_inside (suc n) i name = by (own_prop (names_in raw) raw i name) (own_inside i name) (base_in raw i) (λ j. prop_inside n j name)
    where
      by : (own : Option PropPlace) → IfSome own (λ place. place.owner < length raw.types) → (base : Option ℕ)
          → ((j : ℕ) → IfSome (prop_upto (names_in raw) raw n j name) (λ place. place.owner < length raw.types))
          → IfSome (option_or own (option_and_then (λ base. prop_upto (names_in raw) raw n base name) base)) (λ place. place.owner < length raw.types)
      by (Some place) here base above = here
      by None here None above = tt
      by None here (Some j) above = above j

  pub found_inside : (i : ℕ) (name : List ℕ) → IfSome (prop_of_type (names_in raw) raw i name) (λ place. place.owner < length raw.types)
  found_inside i name = prop_inside (length raw.types) i name

  -- lists along a chain, by what each type has
  lists_are : (own : ℕ → List PropId) (lists : List (List PropId)) → lists ≡ map own (range_with_len 0 (length raw.types))
      → (xs : List ℕ) → ((x : ℕ) → Contains xs x → x < length raw.types) → flat_map (list_at lists) xs ≡ flat_map own xs
  lists_are own lists are [] inside = refl
  lists_are own lists are (x ∷ xs) inside =
      let first : list_at lists x ≡ own x =
      ap (λ (all : List (List PropId)). list_at all x) are ∙ get_or-map-range_with_len own 0 (length raw.types) x x [] (inside x (contains_head x xs)) (zero-add x) in
      flat_map-cons (list_at lists) x xs
      ∙ (λ k. first k ++ lists_are own lists are xs (λ y has. inside y (contains_tail x xs y has)) k)
      ∙ sym (flat_map-cons own x xs)

  -- what a type inherits, by what each type has
  pub inherited_are : (own : ℕ → List PropId) (lists : List (List PropId)) → lists ≡ map own (range_with_len 0 (length raw.types))
      → (i : ℕ) → i < length raw.types → chain_list (base_in raw) (length raw.types) lists i ≡ flat_map own (chain_in raw i)
  inherited_are own lists are i inside = lists_are own lists are (chain_in raw i) (λ x has. ⊎_elim
      (λ (same : x ≡ i). let w : x ≡ i = same in omega (arith, w, inside))
      (λ (above : IsAncestor (base_in raw) i x). closed_ancestors (base_in raw) (λ y. y < length raw.types) (λ y j _ next. base_inside raw y j next) i x (base_inside raw i) above)
      (in_chain (base_in raw) (length raw.types) i x has))

  -- the same by the bases that are known
  pub inherited_by : (own : ℕ → List PropId) (lists all : List (List PropId)) (bases : List (Option ℕ)) → base_at bases ≡ base_in raw → length bases ≡ length raw.types
      → lists ≡ map own (range_with_len 0 (length raw.types))
      → ((i : ℕ) → i < length bases → list_at all i ≡ chain_list (base_at bases) (length bases) lists i) → AreInherited raw own all
  inherited_by own lists all bases based alike are joined i inside =
      joined i (subst (λ n. i < n) (sym alike) inside)
      ∙ (λ k. chain_list (based k) (alike k) lists i)
      ∙ inherited_are own lists are i inside

  -- a type with what it inherits
  pub type_is : (i : ℕ) (type : RawType) (key props : List PropId) → key ≡ flat_map (own_key raw) (chain_in raw i) → props ≡ flat_map (own_props raw) (chain_in raw i)
      → type_with raw i type key props ≡ type_of raw i type
  type_is i type key props its_key its_props = λ k. type_with raw i type (its_key k) (its_props k)
