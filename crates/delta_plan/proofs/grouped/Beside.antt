-- Lists whose items stand beside one another, of which one is put into another order.
use Rattle.std.proofs.Common.{◌≡◌, ◌<◌, ℕ, zero, suc, List, [], ◌∷◌, length, get_or, IsPermutation, refl, sym, subst, ap, arith}
use Rattle.std.proofs.Math.ListN.{set}
use Rattle.std.specs.List.{AllZip, swap}
use Rattle.std.proofs.lemmas.List.Edits.{swap_is}
use Rattle.std.proofs.lemmas.List.Sorted.{IsPermutation-keeps, IsPermutation-refl, IsPermutation-trans}

module _ {X Y : Type 0} (R : X → Y → Type 0) where
  as_long : (xs : List X) (ys : List Y) → AllZip R xs ys → length xs ≡ length ys
  as_long [] [] all = refl
  as_long [] (y ∷ ys) all = absurd all
  as_long (x ∷ xs) [] all = absurd all
  as_long (x ∷ xs) (y ∷ ys) all = ap suc (as_long xs ys all.1)

  -- the items at a place
  at_place : (xs : List X) (ys : List Y) (i : ℕ) (d : X) (e : Y) → AllZip R xs ys → i < length xs → R (get_or xs i d) (get_or ys i e)
  at_place [] ys i d e all within = absurd (omega arith)
  at_place (x ∷ xs) [] i d e all within = absurd all
  at_place (x ∷ xs) (y ∷ ys) zero d e all within = all.0
  at_place (x ∷ xs) (y ∷ ys) (suc i) d e all within = at_place xs ys i d e all.1 (omega arith)

  -- others are put at a place
  both_set : (xs : List X) (ys : List Y) (i : ℕ) (x : X) (y : Y) → AllZip R xs ys → R x y → AllZip R (set xs i x) (set ys i y)
  both_set [] [] i x y all holds = all
  both_set [] (other ∷ ys) i x y all holds = absurd all
  both_set (one ∷ xs) [] i x y all holds = absurd all
  both_set (one ∷ xs) (other ∷ ys) zero x y all holds = (holds, all.1)
  both_set (one ∷ xs) (other ∷ ys) (suc i) x y all holds = (all.0, both_set xs ys i x y all.1 holds)

  both_swap : (xs : List X) (ys : List Y) (i j : ℕ) → AllZip R xs ys → i < length ys → j < length ys → AllZip R (swap xs i j) (swap ys i j)
  both_swap [] [] i j all within inside = all
  both_swap [] (y ∷ ys) i j all within inside = absurd all
  both_swap (x ∷ xs) [] i j all within inside = absurd all
  both_swap (x ∷ xs) (y ∷ ys) i j all within inside =
      let size : length (x ∷ xs) ≡ length (y ∷ ys) = as_long (x ∷ xs) (y ∷ ys) all in
      let i_in : i < length (x ∷ xs) = subst (λ n. i < n) (sym size) within in
      let j_in : j < length (x ∷ xs) = subst (λ n. j < n) (sym size) inside in
      subst (λ list. AllZip R list (swap (y ∷ ys) i j)) (swap_is (x ∷ xs) i j x i_in j_in)
      (subst (AllZip R (set (set (x ∷ xs) i (get_or (x ∷ xs) j x)) j (get_or (x ∷ xs) i x))) (swap_is (y ∷ ys) i j y within inside)
      (both_set (set (x ∷ xs) i (get_or (x ∷ xs) j x)) (set (y ∷ ys) i (get_or (y ∷ ys) j y)) j (get_or (x ∷ xs) i x) (get_or (y ∷ ys) i y)
      (both_set (x ∷ xs) (y ∷ ys) i (get_or (x ∷ xs) j x) (get_or (y ∷ ys) j y) all (at_place (x ∷ xs) (y ∷ ys) j x y all j_in))
      (at_place (x ∷ xs) (y ∷ ys) i x y all i_in)))

  -- a list in another order, with items beside it still
  pub record AreBeside (xs : List X) (ys : List Y) : Type 0 where
    pub others : List X
    pub moved : IsPermutation xs others
    pub beside : AllZip R others ys

  -- the others follow where those beside them are put into another order
  pub moved_beside : (xs : List X) (ys zs : List Y) → AllZip R xs ys → IsPermutation ys zs → AreBeside xs zs
  moved_beside xs ys zs all = IsPermutation-keeps ys (AreBeside xs) (record { others = xs; moved = IsPermutation-refl xs; beside = all })
      (λ list i j within inside are.
      let size : length are.others ≡ length list = as_long are.others list are.beside in
      record {
        others = swap are.others i j;
        moved = IsPermutation-trans xs are.others (swap are.others i j) are.moved (swapped are.others i j (subst (λ n. i < n) (sym size) within) (subst (λ n. j < n) (sym size) inside));
        beside = both_swap are.others list i j are.beside within inside;
      }) zs
    where
      swapped : (list : List X) (i j : ℕ) → i < length list → j < length list → IsPermutation list (swap list i j)
      swapped list i j within inside = record { moves = (i, j) ∷ []; below = (within, inside, tt); is = refl }
