-- Tests of numbered items, and of images, while a loop passes the items.
use Rattle.std.proofs.Common.{◌≡◌, ◌+◌, ◌≤◌, ◌||◌, ℕ, zero, suc, List, [], ◌∷◌, cond, take, map, find, length, Bool, true, false, Some, None, refl, sym, ap, ◌∙◌}
use Rattle.std.specs.List.{enumerate_from, list_any}
use Rattle.std.proofs.lemmas.Bool.{or_from, or_parts}
use Rattle.std.proofs.lemmas.List.Folds.{list_any-append, list_any_at}
use Rattle.std.proofs.lemmas.Option.{get_or_from_slice_get, none-some, same_Some, slice_get_within}
use Rattle.emc_base.specs.Lists.{At}
use Rattle.emc_base.proofs.Loops.{take-enumerated, take_item}
use Rattle.emc_base.proofs.Numbered.{numbered_at}

module _ {X : Type 0} (test : ℕ × X → Bool) (xs : List X) (i : ℕ) where
  -- one numbered item more fails
  pub none_more : (x : X) → At xs i x → list_any test (take i (enumerate_from 0 xs)) ≡ false → test (i, x) ≡ false
      → list_any test (take (i + 1) (enumerate_from 0 xs)) ≡ false
  none_more x here none fails =
      let passed = take i (enumerate_from 0 xs) in
      ap (list_any test) (take_item (enumerate_from 0 xs) i (i, x) (numbered_at xs i x here))
      ∙ list_any-append test passed ((i, x) ∷ [])
      ∙ or_from (list_any test passed) (test (i, x) || false) none (or_from (test (i, x)) false fails refl)

  -- one passes
  pub one_there : (x : X) → At xs i x → test (i, x) ≡ true → true ≡ list_any test (enumerate_from 0 xs)
  one_there x here passes =
      let numbered = numbered_at xs i x here in
      sym (list_any_at test (enumerate_from 0 xs) i (i, x) (slice_get_within (enumerate_from 0 xs) i (i, x) numbered)
      (ap test (get_or_from_slice_get (enumerate_from 0 xs) i (i, x) (i, x) numbered) ∙ passes))

  -- none does
  pub none_there : length xs ≤ i → list_any test (take i (enumerate_from 0 xs)) ≡ false → false ≡ list_any test (enumerate_from 0 xs)
  none_there end none = sym none ∙ ap (list_any test) (take-enumerated xs i end)

-- one item more fails
pub none_further : {X : Type 0} (test : X → Bool) (xs : List X) (i : ℕ) (x : X) → At xs i x → list_any test (take i xs) ≡ false → test x ≡ false
    → list_any test (take (i + 1) xs) ≡ false
none_further test xs i x here none fails =
    let passed = take i xs in
    ap (list_any test) (take_item xs i x here) ∙ list_any-append test passed (x ∷ [])
    ∙ or_from (list_any test passed) (test x || false) none (or_from (test x) false fails refl)

module _ {X Y : Type 0} (f : X → Y) (test : Y → Bool) where
  abbrev passes_as : X → Bool
  passes_as x = test (f x)

  -- the first image that passes
  pub first_passes : (xs : List X) (i : ℕ) (x : X) → At xs i x → list_any (λ x. test (f x)) (take i xs) ≡ false → test (f x) ≡ true → find test (map f xs) ≡ Some (f x)
  first_passes [] i x here none passes = absurd (none-some x here)
  first_passes (y ∷ ys) zero x here none passes =
      let same : y ≡ x = same_Some y x here in
      ap (λ b. cond b (Some (f y)) (find test (map f ys))) (ap passes_as same ∙ passes) ∙ ap (λ z. Some (f z)) same
  first_passes (y ∷ ys) (suc i) x here none passes =
      let parts = or_parts (test (f y)) (list_any passes_as (take i ys)) none in
      ap (λ b. cond b (Some (f y)) (find test (map f ys))) parts.0 ∙ first_passes ys i x here parts.1 passes

  -- no image passes
  pub none_passes : (xs : List X) → list_any (λ x. test (f x)) xs ≡ false → find test (map f xs) ≡ None
  none_passes [] none = refl
  none_passes (y ∷ ys) none =
      let parts = or_parts (test (f y)) (list_any passes_as ys) none in
      ap (λ b. cond b (Some (f y)) (find test (map f ys))) parts.0 ∙ none_passes ys parts.1
