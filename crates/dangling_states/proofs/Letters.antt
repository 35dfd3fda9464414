-- The row of a text of one letter.
use Rattle.std.proofs.Common.{◌≡◌, ◌≢◌, ℕ, List, [], ◌∷◌, length, refl, arith}
use Rattle.dangling_keys.specs.Outer.{row_of_letters, row_of_number}

pub row_of_none : (letters : List ℕ) → length letters ≢ 1 → 5 ≡ row_of_letters letters
row_of_none [] other = refl
row_of_none (letter ∷ []) other = absurd (other refl)
row_of_none (letter ∷ (next ∷ more)) other = refl

pub row_of_one : (letters : List ℕ) (letter : ℕ) (rest : List ℕ) → length letters ≡ 1 → letters ≡ letter ∷ rest → row_of_number letter ≡ row_of_letters letters
row_of_one [] letter rest one is = absurd (omega (arith, one))
row_of_one (first ∷ []) letter rest one is = let same : letter ≡ first = cc in (λ k. row_of_number (same k))
row_of_one (first ∷ (next ∷ more)) letter rest one is = absurd (omega (arith, one))
