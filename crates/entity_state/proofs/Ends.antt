-- Lists compared part by part, where one of them has ended.
use Rattle.std.proofs.Common.{◌≡◌, ◌<◌, ◌≤◌, ℕ, zero, suc, List, [], ◌∷◌, map, drop, length, refl, ap, ◌∙◌, arith}
use Rattle.std.specs.Cmp.Lexicographic.{slice_cmp}
use Rattle.std.specs.declared.cmp.Ordering.{Ordering}
use Rattle.std.specs.declared.cmp.Ordering.TheVariants.{Less, Equal, Greater}
use Rattle.std.proofs.lemmas.List.{drop_all}

module _ {X Y K : Type 0} (cmp : K → K → Ordering) (f : X → K) (g : Y → K) where
  more : (xs : List X) (i : ℕ) → i < length xs → slice_cmp cmp (map f (drop i xs)) [] ≡ Greater
  more [] i within = absurd (omega arith)
  more (x ∷ xs) zero within = refl
  more (x ∷ xs) (suc i) within = more xs i (omega arith)

  less : (ys : List Y) (i : ℕ) → i < length ys → slice_cmp cmp [] (map g (drop i ys)) ≡ Less
  less [] i within = absurd (omega arith)
  less (y ∷ ys) zero within = refl
  less (y ∷ ys) (suc i) within = less ys i (omega arith)

  -- the second has ended
  pub longer : (xs : List X) (ys : List Y) (i : ℕ) → i < length xs → length ys ≤ i → slice_cmp cmp (map f (drop i xs)) (map g (drop i ys)) ≡ Greater
  longer xs ys i within end = ap (λ rest. slice_cmp cmp (map f (drop i xs)) (map g rest)) (drop_all i ys end) ∙ more xs i within

  -- the first has ended
  pub shorter : (xs : List X) (ys : List Y) (i : ℕ) → length xs ≤ i → i < length ys → slice_cmp cmp (map f (drop i xs)) (map g (drop i ys)) ≡ Less
  shorter xs ys i end within = ap (λ rest. slice_cmp cmp (map f rest) (map g (drop i ys))) (drop_all i xs end) ∙ less ys i within

  -- both have
  pub even : (xs : List X) (ys : List Y) (i : ℕ) → length xs ≤ i → length ys ≤ i → slice_cmp cmp (map f (drop i xs)) (map g (drop i ys)) ≡ Equal
  even xs ys i first second =
      ap (λ rest. slice_cmp cmp (map f rest) (map g (drop i ys))) (drop_all i xs first)
      ∙ ap (λ rest. slice_cmp cmp (map f []) (map g rest)) (drop_all i ys second)
