-- Members of lists, of their images, and of lists with no repeats; and what stands first.
use Rattle.std.proofs.Common.{◌≡◌, ◌≢◌, ◌⊎◌, ⊎_elim, inl, inr, ℕ, zero, suc, ◌<◌, ◌≤◌, Bool, true, false, cond, nat_lt, ltb-false, List, [], ◌∷◌, ◌++◌, append_assoc, append-nil, length, map, reverse, take, drop, position, AllPairs, Contains, Some, None, refl, sym, ap, subst, ◌∙◌, arith}
use Rattle.std.specs.List.{position_or_len}
use Rattle.std.proofs.lemmas.Grind.{reverse_onto}
use Rattle.std.proofs.lemmas.List.{reverse-reverse, take-append-drop}
use Rattle.std.proofs.lemmas.List.Elements.{Contains-append_cases, Contains-append_right, Contains-get_or}
use Rattle.std.proofs.lemmas.List.Quantifiers.{all_pairs_push}
use Rattle.emc_base.specs.Lists.{At}
use Rattle.std.proofs.lemmas.List.Sums.{fails_before_first}
use Rattle.std.proofs.lemmas.List.Sorted.{Contains-permutation, IsPermutation-reverse}

module _ {X : Type 0} where
  pub contains_nil : (x : X) → ¬ Contains [] x
  contains_nil x has = absurd (let w : has.0 < 0 = has.1 in omega arith)

  pub contains_cons_cases : (x : X) (xs : List X) (y : X) → Contains (x ∷ xs) y → (y ≡ x) ⊎ Contains xs y
  contains_cons_cases x xs y (zero, within, is) = inl (sym is)
  contains_cons_cases x xs y (suc k, within, is) = inr (k, omega arith, is)

  pub contains_head : (x : X) (xs : List X) → Contains (x ∷ xs) x
  contains_head x xs = (0, omega arith, refl)

  pub contains_tail : (x : X) (xs : List X) (y : X) → Contains xs y → Contains (x ∷ xs) y
  contains_tail x xs y has = (suc has.0, (let w : has.0 < length xs = has.1 in omega arith), has.2)

  -- the first of a list with no repeats doesn't stand in the rest
  pub apart_head : (x : X) (xs : List X) → AllPairs (λ a b. a ≢ b) (x ∷ xs) → ¬ Contains xs x
  apart_head x xs apart has = apart 0 (suc has.0) x (omega arith) (let w : has.0 < length xs = has.1 in omega arith) (sym has.2)

  pub apart_tail : (x : X) (xs : List X) → AllPairs (λ a b. a ≢ b) (x ∷ xs) → AllPairs (λ a b. a ≢ b) xs
  apart_tail x xs apart = λ i j d below within. apart (suc i) (suc j) d (omega arith) (omega arith)

  -- a list turned round has the same members
  pub contains_reverse : (xs : List X) (x : X) → Contains xs x → Contains (reverse xs) x
  contains_reverse xs x = Contains-permutation xs (reverse xs) x (IsPermutation-reverse xs)

  pub contains_reversed : (xs : List X) (x : X) → Contains (reverse xs) x → Contains xs x
  contains_reversed xs x has = let P : List X → Type 0 = λ ys. Contains ys x in subst P (reverse-reverse xs) (contains_reverse (reverse xs) x has)

  -- one more item before a list that is put behind another the other way round
  pub behind_reversed : (front : List X) (x : X) (xs : List X) → front ++ reverse (x ∷ xs) ≡ (front ++ reverse xs) ++ x ∷ []
  behind_reversed front x xs = ap (λ ys. front ++ ys) (reverse_onto xs x []) ∙ sym (append_assoc front (reverse xs) (x ∷ []))

  -- what stands behind some place stands in the list
  pub contains_dropped : (xs : List X) (n : ℕ) (x : X) → Contains (drop n xs) x → Contains xs x
  contains_dropped xs n x has = let P : List X → Type 0 = λ ys. Contains ys x in subst P (take-append-drop n xs) (Contains-append_right (take n xs) (drop n xs) x has)

  -- no item that stands in a list passes a test for which no place is found
  pub none_passes : (p : X → Bool) (xs : List X) (x : X) → position p xs ≡ None → Contains xs x → p x ≡ false
  none_passes p xs x none has =
      let P : X → Type 0 = λ y. p y ≡ false in
      subst P has.2 (fails_before_first p xs has.0 x (by (position_or_len p xs) (length xs) (nat_lt (position_or_len p xs) (length xs)) refl none has.1))
    where
      by : (n len : ℕ) (b : Bool) → nat_lt n len ≡ b → cond b (Some n) None ≡ None → has.0 < len → has.0 < n
      by n len true is found within = absurd cc
      by n len false is found within = let le : len ≤ n = ltb-false n len is in omega arith

  -- an item at a place of a list with one more at its end
  pub at_push_cases : (xs : List X) (x : X) (k : ℕ) (y : X) → At (xs ++ x ∷ []) k y → At xs k y ⊎ ((k ≡ length xs) × (y ≡ x))
  at_push_cases [] x zero y is = inr (refl, cc)
  at_push_cases [] x (suc k) y is = absurd cc
  at_push_cases (z ∷ xs) x zero y is = inl is
  at_push_cases (z ∷ xs) x (suc k) y is = ⊎_elim
      (λ (old : At xs k y). inl old)
      (λ (last : (k ≡ length xs) × (y ≡ x)). inr (ap suc last.0, last.1))
      (at_push_cases xs x k y is)

  pub at_push_old : (xs : List X) (x : X) (k : ℕ) (y : X) → At xs k y → At (xs ++ x ∷ []) k y
  at_push_old [] x k y is = absurd cc
  at_push_old (z ∷ xs) x zero y is = is
  at_push_old (z ∷ xs) x (suc k) y is = at_push_old xs x k y is

  pub at_push_last : (xs : List X) (x : X) → At (xs ++ x ∷ []) (length xs) x
  at_push_last [] x = refl
  at_push_last (z ∷ xs) x = at_push_last xs x

  -- two lists with no repeats and no common item, the second the other way round
  pub apart_reversed : (xs ys : List X) → ((x : X) → Contains ys x → ¬ Contains xs x) → AllPairs (λ a b. a ≢ b) ys → AllPairs (λ a b. a ≢ b) xs
      → AllPairs (λ a b. a ≢ b) (xs ++ reverse ys)
  apart_reversed xs [] other once apart = let P : List X → Type 0 = λ zs. AllPairs (λ a b. a ≢ b) zs in subst P (sym (append-nil xs)) apart
  apart_reversed xs (y ∷ ys) other once apart = let P : List X → Type 0 = λ zs. AllPairs (λ a b. a ≢ b) zs in
      subst P (sym (behind_reversed xs y ys)) (all_pairs_push (λ a b. a ≢ b) (xs ++ reverse ys) y
      (apart_reversed xs ys (λ x has. other x (contains_tail y ys x has)) (apart_tail y ys once) apart)
      (λ k d within same. by (let Q : X → Type 0 = λ x. Contains (xs ++ reverse ys) x in subst Q same (Contains-get_or (xs ++ reverse ys) k d within))))
    where
      by : ¬ Contains (xs ++ reverse ys) y
      by has = ⊎_elim
          (λ (first : Contains xs y). other y (contains_head y ys) first)
          (λ (later : Contains (reverse ys) y). apart_head y ys once (contains_reversed ys y later))
          (Contains-append_cases xs (reverse ys) y has)

module _ {X Y : Type 0} where
  -- what stands among the images is the image of a member
  pub in_map : (f : X → Y) (xs : List X) (y : Y) → Contains (map f xs) y → (x : X) × Contains xs x × (f x ≡ y)
  in_map f [] y has = absurd (contains_nil y has)
  in_map f (x ∷ xs) y has = ⊎_elim
      (λ (same : y ≡ f x). (x, contains_head x xs, sym same))
      (λ (later : Contains (map f xs) y). let found = in_map f xs y later in (found.0, contains_tail x xs found.0 found.1, found.2))
      (contains_cons_cases (f x) (map f xs) y has)
