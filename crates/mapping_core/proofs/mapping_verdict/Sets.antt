-- What is so one after another: of all items before one.
use Rattle.std.proofs.Common.{◌≡◌, ◌<◌, ◌+◌, inl, inr, ℕ, subst, arith}
use Rattle.std.proofs.lemmas.Bool.{cases_lt}

-- of those before this one it is so
abbrev pub IsSoBefore : (ℕ → Type 0) → ℕ → Type 0
IsSoBefore IsSo i = (n : ℕ) → n < i → IsSo n

pub so_of_none : (IsSo : ℕ → Type 0) → IsSoBefore IsSo 0
so_of_none IsSo n before = absurd (omega arith)

pub so_of_one_more : (IsSo : ℕ → Type 0) (i : ℕ) → IsSoBefore IsSo i → IsSo i → IsSoBefore IsSo (i + 1)
so_of_one_more IsSo i so is n before = elim (cases_lt n i) [
  | inl earlier ↦ so n earlier
  | inr later ↦
      let place : i ≡ n = omega arith in
      subst IsSo place is
]
