-- Turns of loops over places: one more place, one more thing found, one more place kept, and a list that is put in place of another.
use Rattle.std.proofs.Common.{◌≡◌, ◌≢◌, ◌⊎◌, inl, inr, ℕ, zero, suc, ◌+◌, ◌<◌, ◌≤◌, List, [], ◌∷◌, ◌++◌, All, append-nil, length, get_or, slice_get, map, filter, set, take, cond, Bool, Option, refl, sym, ap, subst, ◌∙◌, zero-add, arith}
use Rattle.std.specs.Prelude.{if◌then◌else◌}
use Rattle.std.specs.List.{cons_option, enumerate_from, filter_map, flat_map, range_with_len}
use Rattle.std.proofs.lemmas.Grind.{flat_map-append}
use Rattle.std.proofs.lemmas.List.{map-append}
use Rattle.std.proofs.lemmas.List.Concat.{flat_map-cons}
use Rattle.std.proofs.lemmas.List.Elements.{All-from_get_or, filter-append, filter_map-append}
use Rattle.std.proofs.lemmas.List.FromFn.{get_or-range_with_len, length-range_with_len}
use Rattle.emc_base.specs.Lists.{At}
use Rattle.emc_base.proofs.Loops.{at_enumerated, take-enumerated, take_item}

-- one place more
range_suc : (a n j : ℕ) → a + n ≡ j → range_with_len a (suc n) ≡ range_with_len a n ++ j ∷ []
range_suc a zero j last = let same : a ≡ j = omega (arith, last) in ap (λ k. k ∷ []) same
range_suc a (suc n) j last = ap (λ places. a ∷ places) (range_suc (a + 1) n j (omega (arith, last)))

pub range_more : (a n j : ℕ) → a + n ≡ j → range_with_len a (n + 1) ≡ range_with_len a n ++ j ∷ []
range_more a n j last = let same : n + 1 ≡ suc n = omega arith in ap (range_with_len a) same ∙ range_suc a n j last

-- each of the places is below their number
pub range_inside : (n : ℕ) → All (λ i. i < n) (range_with_len 0 n)
range_inside n = All-from_get_or (λ i. i < n) (range_with_len 0 n) 0 (λ i within.
    let inside : i < n = subst (λ count. i < count) (length-range_with_len 0 n) within in
    subst (λ j. j < n) (sym (get_or-range_with_len 0 n i 0 inside ∙ zero-add i)) inside)

-- one more item gives some
pub flat_more : {X Y : Type 0} (f : X → List Y) (items : List X) (i : ℕ) (item : X) (made : List Y) → made ≡ flat_map f (take i items) → At items i item
    → made ++ f item ≡ flat_map f (take (i + 1) items)
flat_more f items i item made so here =
    (λ k. so k ++ (sym (append-nil (f item)) ∙ sym (flat_map-cons f item [])) k)
    ∙ sym (flat_map-append f (take i items) (item ∷ []))
    ∙ ap (flat_map f) (sym (take_item items i item here))

-- one more item gives one
pub mapped_more : {X Y : Type 0} (f : X → Y) (items : List X) (i : ℕ) (item : X) (made : List Y) (one : Y) → made ≡ map f (take i items) → At items i item → one ≡ f item
    → made ++ one ∷ [] ≡ map f (take (i + 1) items)
mapped_more f items i item made one so here is =
    (λ k. so k ++ is k ∷ [])
    ∙ sym (map-append f (take i items) (item ∷ []))
    ∙ ap (map f) (sym (take_item items i item here))

-- an item with its place, of a list by another name
pub at_place : {X : Type 0} (items all : List X) (i : ℕ) (item : X) → items ≡ all → i < length items → item ≡ get_or items i item → At (enumerate_from 0 all) i (i, item)
at_place items all i item same inside is = ap (λ xs. slice_get (enumerate_from 0 xs) i) (sym same) ∙ at_enumerated items i item inside is

-- after the last of them
pub all_placed : {X : Type 0} (items all : List X) (i : ℕ) → items ≡ all → length items ≤ i → take i (enumerate_from 0 all) ≡ enumerate_from 0 all
all_placed items all i same end = ap (λ xs. take i (enumerate_from 0 xs)) (sym same) ∙ take-enumerated items i end ∙ ap (enumerate_from 0) same

-- one more item is looked up
pub found_more : {X Y : Type 0} (h : X → Option Y) (items : List X) (i : ℕ) (item : X) (made : List Y) (found : Option Y)
    → made ≡ filter_map h (take i items) → At items i item → found ≡ h item → made ++ cons_option found [] ≡ filter_map h (take (i + 1) items)
found_more {X} {Y} h items i item made found so here is =
    (λ k. so k ++ cons_option (is k) [])
    ∙ sym (filter_map-append h (take i items) (item ∷ []))
    ∙ ap (filter_map h) (sym (take_item items i item here))

-- one more place is tested
filtered_one : (p : ℕ → Bool) (n : ℕ) (keep : Bool) → keep ≡ p n → (if keep then n ∷ [] else []) ≡ filter p (n ∷ [])
filtered_one p n keep is = ap (λ (kept : Bool). cond kept (n ∷ []) []) is

pub kept_more : (p : ℕ → Bool) (n : ℕ) (keep : Bool) → keep ≡ p n
    → filter p (range_with_len 0 n) ++ (if keep then n ∷ [] else []) ≡ filter p (range_with_len 0 (n + 1))
kept_more p n keep is =
    ap (λ more. filter p (range_with_len 0 n) ++ more) (filtered_one p n keep is)
    ∙ sym (filter-append p (range_with_len 0 n) (n ∷ []))
    ∙ ap (filter p) (sym (range_more 0 n n (omega arith)))

pub kept_next : (p : ℕ → Bool) (n : ℕ) (keep : Bool) (made : List ℕ) → made ≡ filter p (range_with_len 0 n) → keep ≡ p n
    → made ++ (if keep then n ∷ [] else []) ≡ filter p (range_with_len 0 (n + 1))
kept_next p n keep made so is = ap (λ xs. xs ++ (if keep then n ∷ [] else [])) so ∙ kept_more p n keep is

-- what stands at a place after another list was put at one
pub at_set : {X : Type 0} (xs : List X) (i : ℕ) (y : X) (j : ℕ) (z : X) → At (set xs i y) j z → ((i ≡ j) × (i < length xs) × (y ≡ z)) ⊎ ((i ≢ j) × At xs j z)
at_set [] i y j z is = absurd cc
at_set (x ∷ xs) zero y zero z is = inl (refl, omega arith, cc)
at_set (x ∷ xs) zero y (suc j) z is = inr ((λ (same : 0 ≡ suc j). absurd (omega (arith, same))), is)
at_set (x ∷ xs) (suc i) y zero z is = inr ((λ (same : suc i ≡ 0). absurd (omega (arith, same))), is)
at_set (x ∷ xs) (suc i) y (suc j) z is = by (at_set xs i y j z is)
  where
    by : ((i ≡ j) × (i < length xs) × (y ≡ z)) ⊎ ((i ≢ j) × At xs j z) → ((suc i ≡ suc j) × (suc i < length (x ∷ xs)) × (y ≡ z)) ⊎ ((suc i ≢ suc j) × At xs j z)
    by (inl here) = let within : i < length xs = here.1 in inl (ap suc here.0, omega (arith, within), here.2)
    by (inr other) = inr ((λ (same : suc i ≡ suc j). other.0 (let w : i ≡ j = omega (arith, same) in w)), other.1)
