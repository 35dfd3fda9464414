-- Items at places, lists of one item, items told apart by a key, and tests over lists.
use Rattle.std.proofs.Common.{◌≡◌, ◌≢◌, ⊎_elim, ℕ, zero, suc, ◌<◌, ◌≤◌, List, [], ◌∷◌, length, get_or, All, AllPairs, Contains, refl, sym, ap, subst, ◌∙◌, arith, ◌&&◌, Bool, true, false, not, inl, inr}
use Rattle.std.proofs.lemmas.Bool.{cases_lt, cases_eq, and_parts, not-true, both_ways, false_from_ne_true}
use Rattle.std.proofs.lemmas.List.Elements.{Contains-get_or}
use Rattle.std.proofs.lemmas.Option.{slice_get_within, get_or_from_slice_get, slice_get_cases}
use Rattle.emc_base.specs.Lists.{At}
use Rattle.std.specs.List.{list_all, list_any}
use Rattle.std.proofs.lemmas.List.Folds.{list_any_at}
use Rattle.std.proofs.lemmas.List.Kept.{AllPairs-cons}
use Rattle.std.proofs.lemmas.List.Sums.{AllPass-from_list_all}

module _ {X : Type 0} where
  -- the one item is the only one
  pub only_member : (xs : List X) (x y : X) → xs ≡ x ∷ [] → Contains xs y → y ≡ x
  only_member xs x y one has = go (subst (λ l. Contains l y) one has)
    where
      at_place : (k : ℕ) → k < 1 → get_or (x ∷ []) k y ≡ y → y ≡ x
      at_place zero within is = sym is
      at_place (suc k) within is = absurd (omega arith)

      go : Contains (x ∷ []) y → y ≡ x
      go at = at_place at.0 at.1 at.2

  -- and stands in the list
  pub only_stands : (xs : List X) (x : X) → xs ≡ x ∷ [] → Contains xs x
  only_stands xs x one = subst (λ l. Contains l x) (sym one) (0, omega arith, refl)

  -- what stands in a list of one item stands first, and is that item
  pub only_place : (xs : List X) (x y : X) (i : ℕ) → xs ≡ x ∷ [] → At xs i y → (i ≡ 0) × (y ≡ x)
  only_place xs x y i one at = go i (subst (λ l. At l i y) one at)
    where
      go : (k : ℕ) → At (x ∷ []) k y → (k ≡ 0) × (y ≡ x)
      go zero is = (refl, cc)
      go (suc k) is = cc

  -- a place holds one item
  pub at_once : (xs : List X) (i : ℕ) (x y : X) → At xs i x → At xs i y → x ≡ y
  at_once xs i x y one two = cc

  -- from what holds of each member
  pub all_from_members : (P : X → Type 0) (xs : List X) → ((x : X) → Contains xs x → P x) → All P xs
  all_from_members P xs holds k d within = holds (get_or xs k d) (Contains-get_or xs k d within)

-- within a list each place has an item
pub item_at : {X : Type 0} (xs : List X) (i : ℕ) → i < length xs → (x : X) × At xs i x
item_at xs i within = elim (slice_get_cases xs i).1 [
  | inl found ↦ (found.0, found.2)
  | inr past ↦ let end : length xs ≤ i = past.0 in absurd (omega arith)
]

-- what a test says of all items it says of the one at a place
pub passes_at : {X : Type 0} (p : X → Bool) (xs : List X) (i : ℕ) (x : X) → list_all p xs ≡ true → At xs i x → p x ≡ true
passes_at p xs i x all here = sym (ap p (get_or_from_slice_get xs i x x here)) ∙ AllPass-from_list_all p xs all i x (slice_get_within xs i x here)

-- items with one key stand at one place
pub same_place : {X Y : Type 0} (key : X → Y) (xs : List X) (i j : ℕ) (x y : X) → AllPairs (λ a b. key a ≢ key b) xs → At xs i x → At xs j y → key x ≡ key y → i ≡ j
same_place key xs i j x y apart at_i at_j same =
    let i_in : i < length xs = slice_get_within xs i x at_i in
    let j_in : j < length xs = slice_get_within xs j y at_j in
    let is_x : get_or xs i x ≡ x = get_or_from_slice_get xs i x x at_i in
    let is_y : get_or xs j x ≡ y = get_or_from_slice_get xs j y x at_j in
    ⊎_elim
    (λ (here : i ≡ j). here)
    (λ other. ⊎_elim
    (λ (below : i < j). absurd (apart i j x below j_in (ap key is_x ∙ (same ∙ sym (ap key is_y)))))
    (λ (above : j ≤ i). absurd (apart j i x (omega arith) i_in (ap key is_y ∙ (sym same ∙ sym (ap key is_x)))))
    (cases_lt i j))
    (cases_eq i j)

-- a test by recursion that no item clashes with a later one
pub apart_by_test : {X : Type 0} (R : X → X → Type 0) (clash : X → X → Bool) (f : List X → Bool)
    → ((x : X) (xs : List X) → f (x ∷ xs) ≡ (not (list_any (λ other. clash other x) xs) && f xs))
    → ((x other : X) → clash other x ≡ false → R x other) → (xs : List X) → f xs ≡ true → AllPairs R xs
apart_by_test R clash f step tells [] good = λ i j d below within. absurd (omega arith)
apart_by_test R clash f step tells (x ∷ xs) good =
    let parts = and_parts (not (list_any (λ other. clash other x) xs)) (f xs) (sym (step x xs) ∙ good) in
    AllPairs-cons R x xs
    (λ k d within. tells x (get_or xs k d) (false_from_ne_true (clash (get_or xs k d) x)
    (λ clashes. both_ways (list_any (λ other. clash other x) xs) (not-true (list_any (λ other. clash other x) xs) parts.0)
    (list_any_at (λ other. clash other x) xs k d within clashes))))
    (apart_by_test R clash f step tells xs parts.1)
