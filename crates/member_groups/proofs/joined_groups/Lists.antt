-- Items at places of a list with one more at its end.
use Rattle.std.proofs.Common.{◌≡◌, ℕ, zero, suc, List, [], ◌∷◌, ◌++◌, length, refl, arith}
use Rattle.emc_base.specs.Lists.{At}

module _ {X : Type 0} where
  -- the last one stands where the list ended
  pub at_end : (xs : List X) (x : X) (i : ℕ) → length xs ≡ i → At (xs ++ x ∷ []) i x
  at_end [] x zero end = refl
  at_end [] x (suc i) end = absurd (omega (arith, end))
  at_end (y ∷ xs) x zero end = absurd (omega (arith, end))
  at_end (y ∷ xs) x (suc i) end = at_end xs x i (omega (arith, end))
