-- The order of places: that of the items of a list, and of lists of lists, whose places rise.
use Rattle.std.proofs.Common.{◌≡◌, ◌≢◌, ⊎_elim, ℕ, suc, ◌+◌, ◌<◌, ◌≤◌, List, [], ◌∷◌, ◌++◌, All, AllPairs, get_or, sym, subst, arith}
use Rattle.std.specs.declared.cmp.Ordering.{Ordering}
use Rattle.std.specs.declared.cmp.Ordering.TheVariants.{Less, Equal, Greater}
use Rattle.std.specs.Cmp.{nat_cmp_is, tied_itself}
use Rattle.std.specs.List.{enumerate_from, flat_map}
use Rattle.std.specs.Ordering.{ordering_then}
use Rattle.std.proofs.lemmas.Bool.{cases_lt}
use Rattle.std.proofs.lemmas.List.Elements.{All-append, All-head, All-nil, All-tail, All-weaker}
use Rattle.std.proofs.lemmas.List.Kept.{AllPairs-cons}
use Rattle.std.proofs.lemmas.Option.{get_or_from_slice_get, slice_get_within}
use Rattle.emc_base.specs.Lists.{At}
use Rattle.emc_base.proofs.Lists.{at_once}
use Rattle.emc_base.proofs.facts.Orderings.{equal_upto}
use Rattle.json_form.specs.declared.pointer.Step.{Step}
use Rattle.json_form.specs.declared.pointer.Step.TheVariants.{Item}
use Rattle.json_form.specs.PlaceOrder.{step_cmp_total, steps_cmp_total}
use Rattle.json_form.specs.Pointers.{steps_cmp}

-- a place doesn't come after another
abbrev pub Upto : List Step → List Step → Type 0
Upto one other = steps_cmp one other ≢ Greater

-- nor after itself
pub upto_itself : (place : List Step) → Upto place place
upto_itself place = equal_upto (steps_cmp place place) (tied_itself steps_cmp_total place)

-- behind one step the order is the same
pub upto_behind : (step : Step) (one other : List Step) → Upto one other → Upto (step ∷ one) (step ∷ other)
upto_behind step one other upto =
    let P : Ordering → Type 0 = λ order. ordering_then order (steps_cmp one other) ≢ Greater in
    subst P (sym (tied_itself step_cmp_total step)) upto

-- items go by their numbers
pub upto_items : (i j : ℕ) (one other : List Step) → i < j → Upto (Item i ∷ one) (Item j ∷ other)
upto_items i j one other before =
    let P : Ordering → Type 0 = λ order. ordering_then (ordering_then order Equal) (steps_cmp one other) ≢ Greater in
    subst P (nat_cmp_is i j Less before) (λ is. absurd cc)

module _ {Y : Type 0} (place : Y → List Step) where
  -- the place of one doesn't come after that of another
  abbrev pub NotAfter : Y → Y → Type 0
  NotAfter one other = Upto (place one) (place other)

  -- the places of a list rise
  abbrev pub Rises : List Y → Type 0
  Rises = AllPairs NotAfter

  -- those of a list behind another that comes first
  pub rises_append : (ys zs : List Y) → Rises ys → Rises zs → All (λ y. All (NotAfter y) zs) ys → Rises (ys ++ zs)
  rises_append [] zs first second apart = second
  rises_append (y ∷ ys) zs first second apart = AllPairs-cons NotAfter y (ys ++ zs)
      (All-append (NotAfter y) ys zs (λ k d within. first 0 (suc k) d (omega arith) (omega arith)) (All-head (λ x. All (NotAfter x) zs) y ys apart))
      (rises_append ys zs (λ i j d below within. first (suc i) (suc j) d (omega arith) (omega arith)) second (All-tail (λ x. All (NotAfter x) zs) y ys apart))

  -- of an earlier and a later item
  pub rises_at : (ys : List Y) (i j : ℕ) (one other : Y) → Rises ys → At ys i one → At ys j other → i ≤ j → NotAfter one other
  rises_at ys i j one other rises here there upto = ⊎_elim
      (λ (before : i < j).
      let P : Y → Type 0 = λ y. NotAfter y other in
      let Q : Y → Type 0 = λ y. NotAfter (get_or ys i other) y in
      subst P (get_or_from_slice_get ys i one other here)
      (subst Q (get_or_from_slice_get ys j other other there) (rises i j other before (slice_get_within ys j other there))))
      (λ (late : j ≤ i).
      let same : j ≡ i = omega arith in
      let is : one ≡ other = at_once ys i one other here (subst (λ (k : ℕ). At ys k other) same there) in
      let P : Y → Type 0 = λ y. NotAfter one y in
      subst P is (upto_itself (place one)))
      (cases_lt i j)

  -- the items of a list are places behind these, which rise with their numbers
  module _ {X : Type 0} (at : ℕ → List Step → List Step) (rise : (i j : ℕ) (one other : List Step) → i < j → Upto (at i one) (at j other)) (f : ℕ × X → List Y) where
    -- a place is behind that of an item of this number, or of a later one
    abbrev pub IsFrom : ℕ → Y → Type 0
    IsFrom n y = (i : ℕ) × (rest : List Step) × (n ≤ i) × (place y ≡ at i rest)

    -- a place is behind that of the item of this number
    abbrev pub IsBehind : ℕ → Y → Type 0
    IsBehind i y = (rest : List Step) × (place y ≡ at i rest)

    module _ (behind : (entry : ℕ × X) → All (IsBehind entry.0) (f entry)) where
      pub all_from : (n : ℕ) (xs : List X) → All (IsFrom n) (flat_map f (enumerate_from n xs))
      all_from n [] = All-nil (IsFrom n)
      all_from n (x ∷ xs) = All-append (IsFrom n) (f (n, x)) (flat_map f (enumerate_from (n + 1) xs))
          (All-weaker (IsBehind n) (IsFrom n) (λ y is. (n, is.0, omega arith, is.1)) (f (n, x)) (behind (n, x)))
          (All-weaker (IsFrom (n + 1)) (IsFrom n) (λ y is. let late : n + 1 ≤ is.0 = is.2 in (is.0, is.1, omega arith, is.3)) (flat_map f (enumerate_from (n + 1) xs)) (all_from (n + 1) xs))

      -- where the places in each item rise, so do all
      pub rises_in_items : ((entry : ℕ × X) → Rises (f entry)) → (n : ℕ) (xs : List X) → Rises (flat_map f (enumerate_from n xs))
      rises_in_items each n [] = λ i j d below within. absurd (omega arith)
      rises_in_items each n (x ∷ xs) = rises_append (f (n, x)) (flat_map f (enumerate_from (n + 1) xs)) (each (n, x)) (rises_in_items each (n + 1) xs)
          (All-weaker (IsBehind n) (λ y. All (NotAfter y) (flat_map f (enumerate_from (n + 1) xs))) apart (f (n, x)) (behind (n, x)))
        where
          apart : (y : Y) → IsBehind n y → All (NotAfter y) (flat_map f (enumerate_from (n + 1) xs))
          apart y is = All-weaker (IsFrom (n + 1)) (NotAfter y) later (flat_map f (enumerate_from (n + 1) xs)) (all_from (n + 1) xs)
            where
              later : (z : Y) → IsFrom (n + 1) z → NotAfter y z
              later z from =
                  let late : n + 1 ≤ from.0 = from.2 in
                  let P : List Step → Type 0 = λ p. Upto p (place z) in
                  let Q : List Step → Type 0 = λ p. Upto (at n is.0) p in
                  subst P (sym is.1) (subst Q (sym from.3) (rise n from.0 is.0 from.1 (omega arith)))
