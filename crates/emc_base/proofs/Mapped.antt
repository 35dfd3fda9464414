-- Lists mapped, filtered, numbered and put side by side.
use Rattle.std.proofs.Common.{◌≡◌, ◌+◌, ◌<◌, ℕ, zero, suc, List, [], ◌∷◌, map, filter, zip, cond, length, Bool, true, false, All, Contains, Some, slice_get, refl, sym, ap, subst, ◌∙◌, arith}
use Rattle.std.specs.List.{AllZip, enumerate_from}
use Rattle.std.proofs.lemmas.List.{length-map, get_or-map}
use Rattle.std.proofs.lemmas.List.Elements.{All-head, All-tail, Contains-append_right}
use Rattle.std.proofs.lemmas.Option.{slice_get_within, get_or_from_slice_get}
use Rattle.emc_base.proofs.Loops.{at_enumerated}

-- what stands at a place is a member
pub contains_at : {X : Type 0} (xs : List X) (i : ℕ) (x : X) → slice_get xs i ≡ Some x → Contains xs x
contains_at xs i x here = (i, slice_get_within xs i x here, get_or_from_slice_get xs i x x here)

-- what stands at a place is there with its number
pub contains_enumerated : {X : Type 0} (xs : List X) (i : ℕ) (x : X) → slice_get xs i ≡ Some x → Contains (enumerate_from 0 xs) (i, x)
contains_enumerated xs i x here = contains_at (enumerate_from 0 xs) i (i, x)
    (at_enumerated xs i x (slice_get_within xs i x here) (sym (get_or_from_slice_get xs i x x here)))

-- a member's image is a member of the images
pub contains_map : {X Y : Type 0} (f : X → Y) (xs : List X) (x : X) → Contains xs x → Contains (map f xs) (f x)
contains_map f xs x has = (has.0, subst (λ n. has.0 < n) (sym (length-map xs f)) has.1, get_or-map f xs has.0 x (f x) has.1 ∙ ap f has.2)

-- a member that passes the test is kept
module _ {X : Type 0} (p : X → Bool) where
  contains_more : (b : Bool) (x : X) (kept : List X) (y : X) → Contains kept y → Contains (cond b (x ∷ kept) kept) y
  contains_more true x kept y has = Contains-append_right (x ∷ []) kept y has
  contains_more false x kept y has = has

  contains_first : (b : Bool) (x y : X) (kept : List X) → x ≡ y → b ≡ true → Contains (cond b (x ∷ kept) kept) y
  contains_first true x y kept is passes = (0, omega arith, is)
  contains_first false x y kept is passes = cc

  pub contains_filter : (xs : List X) (y : X) → Contains xs y → p y ≡ true → Contains (filter p xs) y
  contains_filter [] y (k, within, is) passes = absurd (omega arith)
  contains_filter (x ∷ xs) y (zero, within, is) passes = contains_first (p x) x y (filter p xs) is (ap p is ∙ passes)
  contains_filter (x ∷ xs) y (suc k, within, is) passes = contains_more (p x) x (filter p xs) y (contains_filter xs y (k, omega arith, is) passes)

-- the numbers fall away where only the items are looked at
module _ {X Y : Type 0} (f : X → Y) where
  pub map-enumerated : (n : ℕ) (xs : List X) → map (λ (entry : ℕ × X). f entry.1) (enumerate_from n xs) ≡ map f xs
  map-enumerated n [] = refl
  map-enumerated n (x ∷ xs) = ap (λ ys. f x ∷ ys) (map-enumerated (n + 1) xs)

  one_more : (b : Bool) (entry : ℕ × X) (entries : List (ℕ × X)) (xs : List X) → map (λ (e : ℕ × X). f e.1) entries ≡ map f xs
      → map (λ (e : ℕ × X). f e.1) (cond b (entry ∷ entries) entries) ≡ map f (cond b (entry.1 ∷ xs) xs)
  one_more true entry entries xs same = ap (λ ys. f entry.1 ∷ ys) same
  one_more false entry entries xs same = same

  pub map-filter_enumerated : (p : X → Bool) (n : ℕ) (xs : List X)
      → map (λ (entry : ℕ × X). f entry.1) (filter (λ (entry : ℕ × X). p entry.1) (enumerate_from n xs)) ≡ map f (filter p xs)
  map-filter_enumerated p n [] = refl
  map-filter_enumerated p n (x ∷ xs) =
      one_more (p x) (n, x) (filter (λ entry. p entry.1) (enumerate_from (n + 1) xs)) (filter p xs) (map-filter_enumerated p (n + 1) xs)

-- each item is so beside its image
pub all_zip-map : {X Y : Type 0} (P : X → Type 0) (R : X → Y → Type 0) (f : X → Y) → ((x : X) → P x → R x (f x)) → (xs : List X) → All P xs → AllZip R xs (map f xs)
all_zip-map P R f each [] all = tt
all_zip-map P R f each (x ∷ xs) all = (each x (All-head P x xs all), all_zip-map P R f each xs (All-tail P x xs all))

-- beside an empty list stands nothing
module _ {X Y : Type 0} where
  pub zip-no_first : (xs : List X) (ys : List Y) → length xs ≡ 0 → zip xs ys ≡ []
  zip-no_first [] ys none = refl
  zip-no_first (x ∷ xs) ys none = absurd (omega arith)

  pub zip-no_second : (xs : List X) (ys : List Y) → length ys ≡ 0 → zip xs ys ≡ []
  zip-no_second [] ys none = refl
  zip-no_second (x ∷ xs) [] none = refl
  zip-no_second (x ∷ xs) (y ∷ ys) none = absurd (omega arith)
