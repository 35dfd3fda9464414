-- Lists that hold something at each place, with one item more at their end.
use Rattle.std.proofs.Common.{◌≡◌, ◌⊎◌, inl, inr, ℕ, zero, suc, ◌+◌, List, [], ◌∷◌, ◌++◌, length, refl, sym, ap, subst, ◌∙◌, arith}
use Rattle.std.proofs.lemmas.List.{length_push}
use Rattle.emc_base.specs.Lists.{At}
use Rattle.member_groups.specs.group_numbers.Numbers.{HoldsEach}

module _ {X : Type 0} where
  -- what stands at a place stood there before, or is the last
  pub at_last : (xs : List X) (x : X) (i : ℕ) (y : X) → At (xs ++ x ∷ []) i y → At xs i y ⊎ ((length xs ≡ i) × (x ≡ y))
  at_last [] x zero y at = inr (refl, cc)
  at_last [] x (suc i) y at = absurd cc
  at_last (z ∷ xs) x zero y at = inl at
  at_last (z ∷ xs) x (suc i) y at = elim (at_last xs x i y at) [
    | inl old ↦ inl old
    | inr last ↦ inr (ap suc last.0, last.1)
  ]

  -- one more
  pub holds_more : (P : ℕ → X → Type 0) (n : ℕ) (xs : List X) (x : X) → HoldsEach P n xs → P n x → HoldsEach P (n + 1) (xs ++ x ∷ [])
  holds_more P n xs x so_far new = record {
    size = let longer = length_push xs x in let size : length xs ≡ n = so_far.size in omega (arith, longer, size);
    each = λ i item at. elim (at_last xs x i item at) [
      | inl old ↦ so_far.each i item old
      | inr last ↦ let Q : ℕ → Type 0 = λ k. P k item in subst Q (sym so_far.size ∙ last.0) (subst (P n) last.1 new)
    ];
  }

  -- of each another word may be said
  pub holds_as : (P Q : ℕ → X → Type 0) → ((i : ℕ) (x : X) → P i x → Q i x) → (n : ℕ) (xs : List X) → HoldsEach P n xs → HoldsEach Q n xs
  holds_as P Q leads n xs holds = record { size = holds.size; each = λ i item at. leads i item (holds.each i item at) }
