-- Names of lists by their places: which a list has, and whether all are apart.
use mathlib.Core.List.{map-id}
use Rattle.std.proofs.Common.{◌≡◌, ◌↔◌, ℕ, ◌<◌, List, length, get_or, map, All, Any, Contains, IsTrue, true, Option, Some, None, refl, sym, ap, subst, ◌∙◌, arith}
use Rattle.std.specs.Option.{is_some}
use Rattle.std.proofs.lemmas.List.{get_or-map, length-map}
use Rattle.std.proofs.lemmas.List.Elements.{All-map}
use Rattle.std.proofs.lemmas.Option.{get_or_from_slice_get, slice_get-get_or, slice_get_within}
use Rattle.emc_base.specs.Lists.{At, AreApart}
use Rattle.emc_base.proofs.Lists.{item_at}
use Rattle.emc_base.proofs.Mapped.{contains_at, contains_map}
use Rattle.groupings.specs.name_places.GivenNames.{first_place, IsGivenBefore}
use Rattle.groupings.proofs.name_places.FirstPlaces.{first_has, first_upto}

module _ {X : Type 0} (name_in : X → List ℕ) (items : List X) where
  -- the name of the item at a place is the name at the place
  name_at : (i : ℕ) (item : X) (d : List ℕ) → At items i item → get_or (map name_in items) i d ≡ name_in item
  name_at i item d here =
      get_or-map name_in items i item d (slice_get_within items i item here) ∙ ap name_in (get_or_from_slice_get items i item item here)

  -- a name that has a place is that of an item, and back
  pub name_of_item : (name : List ℕ) → is_some (first_place name_in items name) ≡ true → Contains (map name_in items) name
  name_of_item name known = by (first_place name_in items name) refl known
    where
      by : (place : Option ℕ) → first_place name_in items name ≡ place → is_some place ≡ true → Contains (map name_in items) name
      by None none is = absurd cc
      by (Some i) found is =
          let first = first_has name_in items name i found in
          subst (Contains (map name_in items)) first.2 (contains_map name_in items first.0 (contains_at items i first.0 first.1))

  pub place_of_name : (name : List ℕ) → Contains (map name_in items) name → is_some (first_place name_in items name) ≡ true
  place_of_name name has =
      let within : has.0 < length items = subst (λ n. has.0 < n) (length-map items name_in) has.1 in
      let item = item_at items has.0 within in
      let same : name_in item.0 ≡ name = sym (name_at has.0 item.0 name item.1) ∙ has.2 in
      ap is_some (first_upto name_in items name has.0 item.0 item.1 same).1

  -- and so it is said of some item
  pub some_named : (name : List ℕ) → is_some (first_place name_in items name) ≡ true ↔ Any (λ item. name_in item ≡ name) items
  some_named name = (λ known. by (first_place name_in items name) refl known, back)
    where
      by : (place : Option ℕ) → first_place name_in items name ≡ place → is_some place ≡ true → Any (λ item. name_in item ≡ name) items
      by None none is = absurd cc
      by (Some i) found is =
          let first = first_has name_in items name i found in
          (i, first.0, slice_get_within items i first.0 first.1, get_or_from_slice_get items i first.0 first.0 first.1, first.2)

      back : Any (λ item. name_in item ≡ name) items → is_some (first_place name_in items name) ≡ true
      back (k, item, within, is, same) = ap is_some (first_upto name_in items name k item (slice_get-get_or items k item within ∙ ap Some is) same).1

  -- where none was given before, all names are apart
  pub apart_names : ((j : ℕ) (item : X) → At items j item → j < length items → ¬ IsGivenBefore name_in items j item) → AreApart (map name_in items)
  apart_names never i j d before within = λ same.
      let last : j < length items = subst (λ n. j < n) (length-map items name_in) within in
      let first : i < length items = omega arith in
      let one = item_at items i first in
      let other = item_at items j last in
      never j other.0 other.1 last
      (record { i = i; other = one.0; before = before; here = one.1; same = sym (name_at i one.0 d one.1) ∙ same ∙ name_at j other.0 d other.1 })

  -- and where one was, they aren't
  pub not_apart : (j : ℕ) (item : X) → At items j item → IsGivenBefore name_in items j item → ¬ AreApart (map name_in items)
  not_apart j item here given apart =
      apart given.i j (name_in item) given.before (subst (λ n. j < n) (sym (length-map items name_in)) (slice_get_within items j item here))
      (name_at given.i given.other (name_in item) given.here ∙ given.same ∙ sym (name_at j item (name_in item) here))

-- a name stands in a list of names exactly where it has a first place there
pub named_by_place : (names : List (List ℕ)) (name : List ℕ) (found : Option ℕ) → first_place (λ other. other) names name ≡ found
    → (IsTrue (is_some found) ↔ Contains names name)
named_by_place names name found is =
    let Has : List (List ℕ) → Type 0 = λ xs. Contains xs name in (
      λ known. subst Has (map-id names) (name_of_item (λ other. other) names name (ap is_some is ∙ known)),
      λ has. ap is_some (sym is) ∙ place_of_name (λ other. other) names name (subst Has (sym (map-id names)) has),
    )

-- all names of items are among those of a list where each has a place there
module _ {X Y : Type 0} (name_in : X → List ℕ) (other_in : Y → List ℕ) (places : List ℕ → Option ℕ) (xs : List X) (ys : List Y) (are : places ≡ first_place name_in xs) where
  pub all_named : All (λ y. is_some (places (other_in y)) ≡ true) ys → All (Contains (map name_in xs)) (map other_in ys)
  all_named known = All-map (Contains (map name_in xs)) other_in ys
      (λ k d within. name_of_item name_in xs (other_in (get_or ys k d)) (sym (λ i. is_some (are i (other_in (get_or ys k d)))) ∙ known k d within))

  pub all_placed : All (Contains (map name_in xs)) (map other_in ys) → All (λ y. is_some (places (other_in y)) ≡ true) ys
  all_placed named = λ k d within.
      let name = other_in (get_or ys k d) in
      let at : get_or (map other_in ys) k name ≡ name = get_or-map other_in ys k d name within in
      let has : Contains (map name_in xs) name = subst (Contains (map name_in xs)) at (named k name (subst (λ n. k < n) (sym (length-map ys other_in)) within)) in
      (λ i. is_some (are i name)) ∙ place_of_name name_in xs name has
