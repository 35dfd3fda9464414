-- Items at places of lists that are joined, and of lists of choices.
use Rattle.std.proofs.Common.{◌≡◌, ◌+◌, ◌*◌, ℕ, zero, suc, List, [], ◌∷◌, ◌++◌, map, flat_map, length, sym, ap, subst, ◌∙◌, suc-mul, zero-mul, zero-add, arith}
use Rattle.std.proofs.lemmas.List.{length-map}
use Rattle.std.proofs.lemmas.List.Concat.{flat_map-append}
use Rattle.emc_base.specs.Lists.{At}
use Rattle.emc_base.proofs.Joined.{at_map}
use Rattle.regions.specs.Lists.{choices}

module _ {X : Type 0} where
  -- with a list behind it, and with one before it
  pub at_front : (xs ys : List X) (j : ℕ) (y : X) → At xs j y → At (xs ++ ys) j y
  at_front [] ys j y here = cc
  at_front (x ∷ xs) ys zero y here = here
  at_front (x ∷ xs) ys (suc j) y here = at_front xs ys j y here

  pub at_behind : (xs ys : List X) (j : ℕ) (y : X) → At ys j y → At (xs ++ ys) (length xs + j) y
  at_behind [] ys j y here = let P : ℕ → Type 0 = λ k. At ys k y in subst P (sym (zero-add j)) here
  at_behind (x ∷ xs) ys j y here =
      let size : suc (length xs + j) ≡ length (x ∷ xs) + j = omega arith in
      let P : ℕ → Type 0 = λ k. At (x ∷ (xs ++ ys)) k y in
      subst P size (at_behind xs ys j y here)

module _ {X Y : Type 0} (f : X → List Y) where
  -- what stands in the list of an item, behind the lists of those before
  pub at_joined : (before after : List X) (x : X) (j : ℕ) (y : Y) → At (f x) j y → At (flat_map f (before ++ x ∷ after)) (length (flat_map f before) + j) y
  at_joined before after x j y here =
      let P : List Y → Type 0 = λ ys. At ys (length (flat_map f before) + j) y in
      subst P (sym (flat_map-append f before (x ∷ after)))
      (at_behind (flat_map f before) (f x ++ flat_map f after) j y (at_front (f x) (flat_map f after) j y here))

  module _ (n : ℕ) (each : (x : X) → length (f x) ≡ n) where
    -- the same where the lists have one length
    pub at_even : (xs : List X) (i j : ℕ) (x : X) (y : Y) → At xs i x → At (f x) j y → At (flat_map f xs) (i * n + j) y
    at_even [] i j x y at_i at_j = cc
    at_even (z ∷ xs) zero j x y at_i at_j =
        let same : z ≡ x = cc in
        let P : X → Type 0 = λ one. At (f one) j y in
        let Q : ℕ → Type 0 = λ k. At (f z ++ flat_map f xs) k y in
        let none : j ≡ zero * n + j = sym (ap (λ m. m + j) (zero-mul n) ∙ zero-add j) in
        subst Q none (at_front (f z) (flat_map f xs) j y (subst P (sym same) at_j))
    at_even (z ∷ xs) (suc i) j x y at_i at_j =
        let later = at_behind (f z) (flat_map f xs) (i * n + j) y (at_even xs i j x y at_i at_j) in
        let Q : ℕ → Type 0 = λ k. At (f z ++ flat_map f xs) k y in
        let more : suc i * n ≡ i * n + n = suc-mul i n in
        let rest : ℕ = i * n in
        let whole : ℕ = suc i * n in
        let size : length (f z) ≡ n = each z in
        let place : length (f z) + (rest + j) ≡ whole + j = omega (arith, more, size) in
        subst Q place later

module _ {X : Type 0} (xs : List X) (rest : List (List X)) where
  -- a choice by the places of its first item and of the others
  pub at_choice : (i j : ℕ) (x : X) (choice : List X) → At xs i x → At (choices rest) j choice
      → At (choices (xs ∷ rest)) (i * length (choices rest) + j) (x ∷ choice)
  at_choice i j x choice at_i at_j =
      at_even (λ one. map (λ others. one ∷ others) (choices rest)) (length (choices rest)) (λ one. length-map (choices rest) (λ others. one ∷ others)) xs i j x
      (x ∷ choice) at_i (at_map (λ (others : List X). x ∷ others) (choices rest) j choice at_j)
