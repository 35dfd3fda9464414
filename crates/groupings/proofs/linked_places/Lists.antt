-- Items at places of a list that is changed at one place.
use Rattle.std.proofs.Common.{◌≡◌, ◌≢◌, ℕ, zero, suc, ◌<◌, List, [], ◌∷◌, ◌++◌, length, set, length-set, refl, sym, ◌∙◌, arith}
use Rattle.std.proofs.lemmas.List.{get_or-set_other, get_or-set_same}
use Rattle.std.proofs.lemmas.Option.{get_or_from_slice_get, slice_get_read, slice_get_within}
use Rattle.emc_base.specs.Lists.{At}

module _ {X : Type 0} (xs : List X) where
  -- an item put in place of another stands there
  pub at_set : (i : ℕ) (x : X) → i < length xs → At (set xs i x) i x
  at_set i x inside = slice_get_read (set xs i x) (length xs) i x (sym (length-set xs i x)) inside (sym (get_or-set_same xs i x x inside))

  -- the others keep their places
  pub at_set_other : (i j : ℕ) (x y : X) → i ≢ j → At xs j y → At (set xs i x) j y
  at_set_other i j x y other at = slice_get_read (set xs i x) (length xs) j y (sym (length-set xs i x)) (slice_get_within xs j y at)
      (sym (get_or-set_other xs i j x y (λ same. other (sym same)) ∙ get_or_from_slice_get xs j y y at))

  -- and no others stand there
  pub at_before_set : (i j : ℕ) (x y : X) → i ≢ j → At (set xs i x) j y → At xs j y
  at_before_set i j x y other at =
      let inside : j < length (set xs i x) = slice_get_within (set xs i x) j y at in
      slice_get_read xs (length xs) j y refl (omega (arith, inside, length-set xs i x))
      (sym (sym (get_or-set_other xs i j x y (λ same. other (sym same))) ∙ get_or_from_slice_get (set xs i x) j y y at))

module _ {X : Type 0} where
  -- an item put behind a list stands at its end
  pub at_end : (xs : List X) (i : ℕ) (x : X) → i ≡ length xs → At (xs ++ x ∷ []) i x
  at_end [] zero x is = refl
  at_end [] (suc i) x is = absurd (omega (arith, is))
  at_end (y ∷ xs) zero x is = absurd (omega (arith, is))
  at_end (y ∷ xs) (suc i) x is = at_end xs i x (omega (arith, is))

  -- and the items before it where they stood
  pub at_before_end : (xs : List X) (i : ℕ) (x y : X) → At xs i y → At (xs ++ x ∷ []) i y
  at_before_end [] i x y at = absurd cc
  at_before_end (z ∷ xs) zero x y at = at
  at_before_end (z ∷ xs) (suc i) x y at = at_before_end xs i x y at
