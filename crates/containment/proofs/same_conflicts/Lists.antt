-- What is not so, and lists: which have no item, numbered items, and pairs of items.
use Rattle.std.proofs.Common.{◌≡◌, ◌≢◌, ◌⊎◌, ◌↔◌, ⊎_elim, inl, inr, ◌+◌, ◌<◌, ◌≤◌, ◌++◌, ℕ, List, [], ◌∷◌, length, map, take, get_or, AllPairs, Contains, Bool, true, false, not, IsTrue, refl, sym, ap, subst, ◌∙◌, arith}
use Rattle.std.specs.List.{enumerate_from, list_any}
use Rattle.std.proofs.lemmas.List.{map-append}
use Rattle.std.proofs.lemmas.Bool.{cases_eq, cases_lt}
use Rattle.std.proofs.lemmas.Option.{get_or_from_slice_get, slice_get_within}
use Rattle.emc_base.specs.Lists.{At}
use Rattle.emc_base.proofs.Lists.{at_once}
use Rattle.emc_base.proofs.Loops.{at_enumerated, take_item}
use Rattle.regions.proofs.region_laws.lists.Found.{place_of}

-- whether a list has no item
pub no_item : {X : Type 0} (xs : List X) (r : Bool) → IsTrue r ↔ (xs ≡ []) → r ≡ not (list_any (λ x. true) xs)
no_item [] r is = is.1 refl
no_item (x ∷ xs) true is = let never : x ∷ xs ≡ [] = is.0 refl in cc
no_item (x ∷ xs) false is = refl

-- one numbered item more is mapped
pub map_more : {X Y : Type 0} (f : ℕ × X → Y) (xs : List X) (i : ℕ) (x : X) → i < length xs → x ≡ get_or xs i x → (made : List Y)
    → made ≡ map f (take i (enumerate_from 0 xs)) → made ++ f (i, x) ∷ [] ≡ map f (take (i + 1) (enumerate_from 0 xs))
map_more f xs i x within is made so_far =
    ap (λ first. first ++ f (i, x) ∷ []) so_far
    ∙ sym (ap (map f) (take_item (enumerate_from 0 xs) i (i, x) (at_enumerated xs i x within is)) ∙ map-append f (take i (enumerate_from 0 xs)) ((i, x) ∷ []))

module _ {X : Type 0} (R : X → X → Type 0) (xs : List X) (all : AllPairs R xs) where
  -- what is so of all pairs is so of an earlier item and a later one
  pub pair_at : (i j : ℕ) (x y : X) → i < j → At xs i x → At xs j y → R x y
  pair_at i j x y before at there =
      subst (λ one. R one y) (get_or_from_slice_get xs i x x at) (subst (R (get_or xs i x)) (get_or_from_slice_get xs j y x there)
      (all i j x before (slice_get_within xs j y there)))

  -- and of any two different ones, in one order or the other
  pub pair_of : (x y : X) → Contains xs x → Contains xs y → x ≢ y → R x y ⊎ R y x
  pair_of x y has has_too other =
      let first = place_of xs x has in
      let second = place_of xs y has_too in
      ⊎_elim
      (λ (same : first.0 ≡ second.0). absurd (other (at_once xs second.0 x y (subst (λ place. At xs place x) same first.1) second.1)))
      (λ (apart : first.0 ≢ second.0). ⊎_elim
      (λ (before : first.0 < second.0). inl (pair_at first.0 second.0 x y before first.1 second.1))
      (λ (after : second.0 ≤ first.0). inr (pair_at second.0 first.0 y x (omega (arith, after, apart)) second.1 first.1))
      (cases_lt first.0 second.0))
      (cases_eq first.0 second.0)
