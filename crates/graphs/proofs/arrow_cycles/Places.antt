-- Items at places of a list that is cut, put behind another, or changed at one place.
use Rattle.std.proofs.Common.{◌≡◌, ◌≢◌, ◌⊎◌, ⊎_elim, inl, inr, ℕ, zero, suc, ◌+◌, ◌-◌, ◌<◌, ◌≤◌, List, [], ◌∷◌, ◌++◌, length, get_or, set, take, drop, Contains, Some, None, slice_get, length-drop, refl, ap, sym, subst, ◌∙◌, arith}
use Rattle.std.proofs.lemmas.Option.{slice_get_read, slice_get_within}
use Rattle.emc_base.specs.Lists.{At}
use Rattle.emc_base.proofs.Lists.{item_at}
use Rattle.emc_base.proofs.Mapped.{contains_at}

module _ {X : Type 0} where
  -- an item of a list put behind stands behind
  pub at_right : (xs ys : List X) (i : ℕ) (x : X) → At ys i x → At (xs ++ ys) (length xs + i) x
  at_right [] ys i x at = let P : ℕ → Type 0 = λ k. At ys k x in subst P (let same : i ≡ 0 + i = omega arith in same) at
  at_right (z ∷ xs) ys i x at = let P : ℕ → Type 0 = λ k. At (z ∷ xs ++ ys) k x in
      subst P (let same : suc (length xs + i) ≡ length (z ∷ xs) + i = omega arith in same) (at_right xs ys i x at)

  -- an item of two lists put behind one another stands in one of them
  pub at_append : (xs ys : List X) (i : ℕ) (x : X) → At (xs ++ ys) i x → At xs i x ⊎ ((length xs ≤ i) × Contains ys x)
  at_append [] ys i x at = inr (omega arith, contains_at ys i x at)
  at_append (z ∷ xs) ys zero x at = inl at
  at_append (z ∷ xs) ys (suc i) x at = ⊎_elim
      (λ (old : At xs i x). inl old)
      (λ (later : (length xs ≤ i) × Contains ys x). let le : length xs ≤ i = later.0 in inr (omega arith, later.1))
      (at_append xs ys i x at)

  -- an item of the first so many stands in the list at that place
  pub at_taken : (n : ℕ) (xs : List X) (i : ℕ) (x : X) → At (take n xs) i x → At xs i x × (i < n)
  at_taken zero xs i x at = absurd cc
  at_taken (suc n) [] i x at = absurd cc
  at_taken (suc n) (z ∷ xs) zero x at = (at, omega arith)
  at_taken (suc n) (z ∷ xs) (suc i) x at = let rest = at_taken n xs i x at in (rest.0, let lt : i < n = rest.1 in omega arith)

  pub at_take : (n : ℕ) (xs : List X) (i : ℕ) (x : X) → At xs i x → i < n → At (take n xs) i x
  at_take zero xs i x at lt = absurd (omega arith)
  at_take (suc n) [] i x at lt = absurd cc
  at_take (suc n) (z ∷ xs) zero x at lt = at
  at_take (suc n) (z ∷ xs) (suc i) x at lt = at_take n xs i x at (omega arith)

  -- an item behind the first so many
  pub at_drop : (n : ℕ) (xs : List X) (i : ℕ) (x : X) → At xs i x → n ≤ i → Contains (drop n xs) x
  at_drop zero xs i x at le = contains_at xs i x at
  at_drop (suc n) [] i x at le = absurd cc
  at_drop (suc n) (z ∷ xs) zero x at le = absurd (omega arith)
  at_drop (suc n) (z ∷ xs) (suc i) x at le = at_drop n xs i x at (omega arith)

  pub at_dropped : (n : ℕ) (xs : List X) (i : ℕ) (x : X) → At (drop n xs) i x → At xs (n + i) x
  at_dropped zero xs i x at = let P : ℕ → Type 0 = λ k. At xs k x in subst P (let same : i ≡ 0 + i = omega arith in same) at
  at_dropped (suc n) [] i x at = absurd cc
  at_dropped (suc n) (z ∷ xs) i x at = let P : ℕ → Type 0 = λ k. At (z ∷ xs) k x in
      subst P (let same : suc (n + i) ≡ suc n + i = omega arith in same) (at_dropped n xs i x at)

  -- one item was put in place of another
  pub at_set : (xs : List X) (i : ℕ) (x : X) → i < length xs → At (set xs i x) i x
  at_set [] i x lt = absurd (omega arith)
  at_set (z ∷ xs) zero x lt = refl
  at_set (z ∷ xs) (suc i) x lt = at_set xs i x (omega arith)

  pub at_set_other : (xs : List X) (i j : ℕ) (x y : X) → At xs j y → i ≢ j → At (set xs i x) j y
  at_set_other [] i j x y at other = absurd cc
  at_set_other (z ∷ xs) zero zero x y at other = absurd (other refl)
  at_set_other (z ∷ xs) zero (suc j) x y at other = at
  at_set_other (z ∷ xs) (suc i) zero x y at other = at
  at_set_other (z ∷ xs) (suc i) (suc j) x y at other = at_set_other xs i j x y at (λ same. other (ap suc same))

  pub at_set_cases : (xs : List X) (i j : ℕ) (x y : X) → At (set xs i x) j y → At xs j y ⊎ ((i ≡ j) × (y ≡ x))
  at_set_cases [] i j x y at = absurd cc
  at_set_cases (z ∷ xs) zero zero x y at = inr (refl, cc)
  at_set_cases (z ∷ xs) zero (suc j) x y at = inl at
  at_set_cases (z ∷ xs) (suc i) zero x y at = inl at
  at_set_cases (z ∷ xs) (suc i) (suc j) x y at = ⊎_elim
      (λ (old : At xs j y). inl old)
      (λ (here : (i ≡ j) × (y ≡ x)). inr (ap suc here.0, here.1))
      (at_set_cases xs i j x y at)

  -- an item that differs from the one that was replaced keeps its place
  pub at_set_kept : (xs : List X) (i j : ℕ) (x y z : X) → At xs i z → At xs j y → y ≢ z → At (set xs i x) j y
  at_set_kept xs i j x y z at_i at_j differs = at_set_other xs i j x y at_j
      (λ same. let P : ℕ → Type 0 = λ k. At xs k z in differs (let here : At xs j z = subst P same at_i in cc))

  -- an item that was read
  pub at_read : (xs : List X) (i : ℕ) (read x : X) → i < length xs → read ≡ get_or xs i read → read ≡ x → At xs i x
  at_read xs i read x inside is same = slice_get_read xs (length xs) i read refl inside is ∙ ap Some same

  -- a list without a last item is empty
  nothing_last : (xs : List X) → slice_get xs (length xs - 1) ≡ None → length xs ≡ 0
  nothing_last [] none = refl
  nothing_last (x ∷ xs) none =
      let held = item_at (x ∷ xs) (length (x ∷ xs) - 1) (omega arith) in
      let both : Some held.0 ≡ None = sym held.1 ∙ none in
      absurd cc

  -- the last item behind the first so many is the last of all
  pub last_behind : (n : ℕ) (xs : List X) (x : X) → At (drop n xs) (length (drop n xs) - 1) x → At xs (length xs - 1) x × (n < length xs)
  last_behind n xs x at =
      let P : ℕ → Type 0 = λ k. At xs k x in
      let size : length (drop n xs) ≡ length xs - n = length-drop n xs in
      let inside : length (drop n xs) - 1 < length (drop n xs) = slice_get_within (drop n xs) (length (drop n xs) - 1) x at in
      let same : n + (length (drop n xs) - 1) ≡ length xs - 1 = omega (arith, size, inside) in
      (subst P same (at_dropped n xs (length (drop n xs) - 1) x at), omega (arith, size, inside))

  -- where there is no last item behind the first so many, there are no more
  pub none_behind : (n : ℕ) (xs : List X) → slice_get (drop n xs) (length (drop n xs) - 1) ≡ None → length xs ≤ n
  none_behind n xs none =
      let size : length (drop n xs) ≡ length xs - n = length-drop n xs in
      let empty : length (drop n xs) ≡ 0 = nothing_last (drop n xs) none in
      omega (arith, size, empty)
