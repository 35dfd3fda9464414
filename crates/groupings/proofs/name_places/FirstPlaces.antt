-- What the first place of a name is, and when a name was given before.
use Rattle.std.proofs.Common.{◌≡◌, ◌≢◌, ◌↔◌, ⊎_elim, ℕ, ◌+◌, ◌<◌, ◌≤◌, List, length, AllPairs, get_or, IsTrue, nat_lt, take, Option, Some, None, Bool, false, cond, refl, sym, ap, ◌∙◌, arith}
use Rattle.std.proofs.lemmas.Slice.Eq.{bytes_eq-Decides}
use Rattle.std.proofs.lemmas.Bool.{both_ways, cases_lt}
use Rattle.std.proofs.lemmas.List.{length-take-le}
use Rattle.std.proofs.lemmas.Bool.Decides.{Decides-ltb}
use Rattle.std.proofs.lemmas.Option.{none-some, same_Some, slice_get-get_or, slice_get_within}
use Rattle.std.specs.List.{position}
use Rattle.std.specs.Option.{option_map_or, option_or}
use Rattle.std.specs.Str.{bytes_eq}
use Rattle.emc_base.specs.Lists.{At}
use Rattle.emc_base.proofs.Loops.{take_item}
use Rattle.emc_base.proofs.facts.Found.{position_passes}
use Rattle.groupings.specs.name_places.GivenNames.{first_place, noted, IsGivenBefore}
use Rattle.groupings.proofs.name_places.Positions.{position_push, position_first, position_none}

module _ {X : Type 0} (name_in : X → List ℕ) (items : List X) (name : List ℕ) where
  -- the item at the first place of a name has the name
  pub first_has : (i : ℕ) → first_place name_in items name ≡ Some i → (item : X) × At items i item × (name_in item ≡ name)
  first_has i is =
      let found = position_passes (λ item. bytes_eq name (name_in item)) items i is in
      (found.0, found.1, sym ((bytes_eq-Decides name (name_in found.0)).0 found.2))

  -- and no earlier item has it
  pub none_earlier : (i k : ℕ) (item : X) → first_place name_in items name ≡ Some i → k < i → At items k item → name_in item ≢ name
  none_earlier i k item is before here = λ same.
      both_ways (bytes_eq name (name_in item)) (position_first (λ other. bytes_eq name (name_in other)) items i k item is before here)
      ((bytes_eq-Decides name (name_in item)).1 (sym same))

  -- a name with no first place is that of no item
  pub given_nowhere : (k : ℕ) (item : X) → first_place name_in items name ≡ None → At items k item → name_in item ≢ name
  given_nowhere k item none here = λ same.
      both_ways (bytes_eq name (name_in item)) (position_none (λ other. bytes_eq name (name_in other)) items k item none here)
      ((bytes_eq-Decides name (name_in item)).1 (sym same))

  -- where an item has the name, the name has a first place, at the item or before
  pub first_upto : (k : ℕ) (item : X) → At items k item → name_in item ≡ name → (i : ℕ) × (first_place name_in items name ≡ Some i) × (i ≤ k)
  first_upto k item here same = by (first_place name_in items name) refl
    where
      by : (found : Option ℕ) → first_place name_in items name ≡ found → (i : ℕ) × (first_place name_in items name ≡ Some i) × (i ≤ k)
      by None none = absurd (given_nowhere k item none here same)
      by (Some i) is = (i, is, ⊎_elim (λ (early : k < i). absurd (none_earlier i k item is early here same)) (λ (fine : i ≤ k). fine) (cases_lt k i))

module _ {X : Type 0} (name_in : X → List ℕ) (items : List X) (j : ℕ) (item : X) where
  -- a name that is first given at an earlier place was given before
  pub given_from_first : (i : ℕ) → first_place name_in items (name_in item) ≡ Some i → i < j → IsGivenBefore name_in items j item
  given_from_first i is before =
      let first = first_has name_in items (name_in item) i is in
      record { i = i; other = first.0; before = before; here = first.1; same = first.2 }

  -- a name that was given before is first given at an earlier place
  pub first_from_given : IsGivenBefore name_in items j item → (i : ℕ) × (first_place name_in items (name_in item) ≡ Some i) × (i < j)
  first_from_given given =
      let first = first_upto name_in items (name_in item) given.i given.other given.here given.same in
      let up : first.0 ≤ given.i = first.2 in
      let before : given.i < j = given.before in
      (first.0, first.1, omega arith)

  -- at an item's own place, its name was given before where its first place is another
  pub given_before : At items j item → (IsGivenBefore name_in items j item ↔ (first_place name_in items (name_in item) ≢ Some j))
  given_before here = (to, back)
    where
      to : IsGivenBefore name_in items j item → first_place name_in items (name_in item) ≢ Some j
      to given = λ own. let first = first_from_given given in let before : first.0 < j = first.2 in none_earlier name_in items (name_in item) j given.i given.other own given.before given.here given.same

      back : first_place name_in items (name_in item) ≢ Some j → IsGivenBefore name_in items j item
      back other =
          let first = first_upto name_in items (name_in item) j item here refl in
          let up : first.0 ≤ j = first.2 in
          let apart : first.0 ≢ j = λ same. other (first.1 ∙ ap Some same) in
          given_from_first first.0 first.1 (omega arith)

  -- where its name wasn't given before, the item's own place is the first
  pub own_place : At items j item → ¬ IsGivenBefore name_in items j item → first_place name_in items (name_in item) ≡ Some j
  own_place here not_given =
      let first = first_upto name_in items (name_in item) j item here refl in
      let up : first.0 ≤ j = first.2 in
      let not_early : ¬ (first.0 < j) = λ early. not_given (given_from_first first.0 first.1 early) in
      let same : first.0 ≡ j = ⊎_elim (λ (early : first.0 < j). absurd (not_early early)) (λ (late : j ≤ first.0). omega arith) (cases_lt first.0 j) in
      first.1 ∙ ap Some same

  -- the test by the first place tells whether the name was given before
  pub tells_given : (found : Option ℕ) → first_place name_in items (name_in item) ≡ found
      → (IsTrue (option_map_or (λ first. nat_lt first j) found false) ↔ IsGivenBefore name_in items j item)
  tells_given None none = (λ is. absurd cc, λ given. let first = first_from_given given in absurd (none-some first.0 (sym none ∙ first.1)))
  tells_given (Some i) is = (to, back)
    where
      to : IsTrue (nat_lt i j) → IsGivenBefore name_in items j item
      to early = given_from_first i is ((Decides-ltb i j).0 early)

      back : IsGivenBefore name_in items j item → IsTrue (nat_lt i j)
      back given =
          let first = first_from_given given in
          let same : i ≡ first.0 = same_Some i first.0 (sym is ∙ first.1) in
          let early : first.0 < j = first.2 in
          (Decides-ltb i j).1 (omega arith)

-- where no name was given before, no two items have one name
pub names_apart : {X : Type 0} (name_in : X → List ℕ) (items : List X) → ((j : ℕ) (item : X) → At items j item → ¬ IsGivenBefore name_in items j item)
    → AllPairs (λ one other. name_in one ≢ name_in other) items
names_apart name_in items never = λ i j d before within same.
    let inside : i < length items = omega arith in
    never j (get_or items j d) (slice_get-get_or items j d within)
    (record { i = i; other = get_or items i d; before = before; here = slice_get-get_or items i d inside; same = same })

-- once one item more is noted, its name has a place too
pub noted_more : {X : Type 0} (name_in : X → List ℕ) (items : List X) (i : ℕ) (item : X) (name : List ℕ) (known now : List ℕ → Option ℕ)
    → At items i item → name ≡ name_in item → ((other : List ℕ) → known other ≡ first_place name_in (take i items) other)
    → ((other : List ℕ) → now other ≡ noted known name i other) → (other : List ℕ) → now other ≡ first_place name_in (take (i + 1) items) other
noted_more {X} name_in items i item name known now here is are notes other =
    let p : X → Bool = λ x. bytes_eq other (name_in x) in
    let count : length (take i items) ≡ i =
    length-take-le i items (let inside : i < length items = slice_get_within items i item here in omega arith) in
    notes other
    ∙ ap (λ found. option_or found (cond (bytes_eq other name) (Some i) None)) (are other)
    ∙ (λ k. option_or (position p (take i items)) (cond (bytes_eq other (is k)) (Some (sym count k)) None))
    ∙ sym (position_push p (take i items) item)
    ∙ ap (position p) (sym (take_item items i item here))
