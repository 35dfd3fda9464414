-- Lists with the same items in another order, of which those are kept that pass a test.
use Rattle.std.proofs.Common.{◌≡◌, ◌<◌, ℕ, zero, suc, List, [], ◌∷◌, ◌++◌, length, get_or, filter, Bool, true, false, if◌then◌else◌, IsPermutation, refl, sym, ap, subst, ◌∙◌, arith}
use Rattle.std.proofs.Math.ListN.{set}
use Rattle.std.specs.List.{swap}
use Rattle.emc_base.proofs.Joined.{filter-drops, filter-keeps}
use Rattle.std.proofs.lemmas.List.{append_assoc}
use Rattle.std.proofs.lemmas.List.Edits.{swap_is}
use Rattle.std.proofs.lemmas.List.Sorted.{IsPermutation-append_comm, IsPermutation-append_left, IsPermutation-append_right, IsPermutation-keeps, IsPermutation-refl, IsPermutation-sym, IsPermutation-trans}

module _ {X : Type 0} (p : X → Bool) where
  -- an item that passes, or none
  pick : X → List X
  pick x = if p x then x ∷ [] else []

  filter_first : (x : X) (xs : List X) → filter p (x ∷ xs) ≡ pick x ++ filter p xs
  unfolding pick
  filter_first x xs = by (p x) refl
    where
      by : (b : Bool) → p x ≡ b → filter p (x ∷ xs) ≡ pick x ++ filter p xs
      by true told = filter-keeps p x xs told ∙ ap (λ b. (if b then x ∷ [] else []) ++ filter p xs) (sym told)
      by false told = filter-drops p x xs told ∙ ap (λ b. (if b then x ∷ [] else []) ++ filter p xs) (sym told)

  -- two parts in front change places
  exchanged : (one two rest : List X) → IsPermutation (one ++ (two ++ rest)) (two ++ (one ++ rest))
  exchanged one two rest = subst (λ list. IsPermutation list (two ++ (one ++ rest))) (append_assoc one two rest)
      (subst (IsPermutation ((one ++ two) ++ rest)) (append_assoc two one rest)
      (IsPermutation-append_left rest (one ++ two) (two ++ one) (IsPermutation-append_comm one two)))

  -- where an item is put in place of another, this comes in front for that
  set_filtered : (xs : List X) (k : ℕ) (y d : X) → k < length xs → IsPermutation (pick (get_or xs k d) ++ filter p (set xs k y)) (pick y ++ filter p xs)
  set_filtered [] k y d within = absurd (omega arith)
  set_filtered (x ∷ xs) zero y d within =
      subst (λ list. IsPermutation (pick x ++ list) (pick y ++ filter p (x ∷ xs))) (sym (filter_first y xs))
      (subst (λ list. IsPermutation (pick x ++ (pick y ++ filter p xs)) (pick y ++ list)) (sym (filter_first x xs))
      (exchanged (pick x) (pick y) (filter p xs)))
  set_filtered (x ∷ xs) (suc k) y d within =
      let out : List X = pick (get_or xs k d) in
      let put : List X = filter p (set xs k y) in
      let less : k < length xs = omega arith in
      subst (λ list. IsPermutation (out ++ list) (pick y ++ filter p (x ∷ xs))) (sym (filter_first x (set xs k y)))
      (subst (λ list. IsPermutation (out ++ (pick x ++ put)) (pick y ++ list)) (sym (filter_first x xs))
      (IsPermutation-trans (out ++ (pick x ++ put)) (pick x ++ (out ++ put)) (pick y ++ (pick x ++ filter p xs)) (exchanged out (pick x) put)
      (IsPermutation-trans (pick x ++ (out ++ put)) (pick x ++ (pick y ++ filter p xs)) (pick y ++ (pick x ++ filter p xs))
      (IsPermutation-append_right (pick x) (out ++ put) (pick y ++ filter p xs) (set_filtered xs k y d less))
      (exchanged (pick x) (pick y) (filter p xs)))))

  -- so it is where two items change places
  sets_filtered : (xs : List X) (i j : ℕ) (d : X) → i < length xs → j < length xs
      → IsPermutation (filter p xs) (filter p (set (set xs i (get_or xs j d)) j (get_or xs i d)))
  sets_filtered [] i j d within inside = absurd (omega arith)
  sets_filtered (x ∷ xs) zero zero d within inside = IsPermutation-refl (filter p (x ∷ xs))
  sets_filtered (x ∷ xs) zero (suc j) d within inside =
      let y : X = get_or xs j d in
      subst (λ list. IsPermutation list (filter p (y ∷ set xs j x))) (sym (filter_first x xs))
      (subst (IsPermutation (pick x ++ filter p xs)) (sym (filter_first y (set xs j x)))
      (IsPermutation-sym (pick y ++ filter p (set xs j x)) (pick x ++ filter p xs) (set_filtered xs j x d (omega arith))))
  sets_filtered (x ∷ xs) (suc i) zero d within inside =
      let y : X = get_or xs i d in
      subst (λ list. IsPermutation list (filter p (y ∷ set xs i x))) (sym (filter_first x xs))
      (subst (IsPermutation (pick x ++ filter p xs)) (sym (filter_first y (set xs i x)))
      (IsPermutation-sym (pick y ++ filter p (set xs i x)) (pick x ++ filter p xs) (set_filtered xs i x d (omega arith))))
  sets_filtered (x ∷ xs) (suc i) (suc j) d within inside =
      let moved : List X = set (set xs i (get_or xs j d)) j (get_or xs i d) in
      subst (λ list. IsPermutation list (filter p (x ∷ moved))) (sym (filter_first x xs))
      (subst (IsPermutation (pick x ++ filter p xs)) (sym (filter_first x moved))
      (IsPermutation-append_right (pick x) (filter p xs) (filter p moved) (sets_filtered xs i j d (omega arith) (omega arith))))

  swap_filtered : (xs : List X) (i j : ℕ) → i < length xs → j < length xs → IsPermutation (filter p xs) (filter p (swap xs i j))
  swap_filtered [] i j within inside = absurd (omega arith)
  swap_filtered (x ∷ xs) i j within inside = subst (λ list. IsPermutation (filter p (x ∷ xs)) (filter p list)) (swap_is (x ∷ xs) i j x within inside)
      (sets_filtered (x ∷ xs) i j x within inside)

  -- what passes of the one is what passes of the other, in another order
  pub filtered_alike : (xs ys : List X) → IsPermutation xs ys → IsPermutation (filter p xs) (filter p ys)
  filtered_alike xs ys = IsPermutation-keeps xs (λ list. IsPermutation (filter p xs) (filter p list)) (IsPermutation-refl (filter p xs))
      (λ list i j within inside moved. IsPermutation-trans (filter p xs) (filter p list) (filter p (swap list i j)) moved (swap_filtered list i j within inside)) ys
