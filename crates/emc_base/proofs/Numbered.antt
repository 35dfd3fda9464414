-- The places of the items that pass a test: which they are, and that they rise. Members of mapped and filtered lists, told back.
use Rattle.std.proofs.Common.{◌≡◌, ◌+◌, ◌<◌, ℕ, suc, List, [], ◌∷◌, ◌++◌, append-nil, map, filter, take, cond, length, get_or, Bool, true, false, AllPairs, Contains, Some, refl, sym, ap, subst, ◌∙◌, zero-add, arith}
use Rattle.std.specs.List.{enumerate_from}
use Rattle.std.proofs.lemmas.List.Elements.{All-contains, All-contains_itself, All-filter, All-map, filter_more, filter_passes}
use Rattle.std.proofs.lemmas.List.FromFn.{get_or-enumerate_from, length-enumerate_from}
use Rattle.std.proofs.lemmas.List.Kept.{AllPairs-cons, AllPairs-filter}
use Rattle.std.proofs.lemmas.Option.{get_or_from_slice_get, slice_get-get_or, slice_get_within}
use Rattle.emc_base.specs.Lists.{At, places_of}
use Rattle.emc_base.proofs.Lists.{all_from_members}
use Rattle.emc_base.proofs.Loops.{at_enumerated}
use Rattle.emc_base.proofs.Mapped.{contains_enumerated, contains_filter, contains_map}

-- what a filter leaves was there, and passes
pub filter_contains : {X : Type 0} (p : X → Bool) (xs : List X) (y : X) → Contains (filter p xs) y → Contains xs y × (p y ≡ true)
filter_contains {X} p xs y has =
    let Passes : X → Type 0 = λ x. p x ≡ true in
    (All-contains (Contains xs) (filter p xs) y (All-filter p (Contains xs) xs (All-contains_itself xs)) has, All-contains Passes (filter p xs) y (filter_passes p xs) has)

-- an image is that of a member
pub map_contains : {X Y : Type 0} (f : X → Y) (xs : List X) (y : Y) → Contains (map f xs) y → (x : X) × Contains xs x × (f x ≡ y)
map_contains {X} {Y} f xs y has =
    let Comes : Y → Type 0 = λ image. (x : X) × Contains xs x × (f x ≡ image) in
    All-contains Comes (map f xs) y (All-map Comes f xs (all_from_members (λ x. Comes (f x)) xs (λ x stands. (x, stands, refl)))) has

-- images are so by pairs as the members are
pub all_pairs_map : {X Y : Type 0} (R : Y → Y → Type 0) (f : X → Y) (xs : List X) → AllPairs (λ x z. R (f x) (f z)) xs → AllPairs R (map f xs)
all_pairs_map R f [] pairs = λ i j d below within. absurd (omega arith)
all_pairs_map R f (x ∷ xs) pairs = AllPairs-cons R (f x) (map f xs)
    (All-map (R (f x)) f xs (λ k d within. pairs 0 (suc k) d (omega arith) (omega arith)))
    (all_pairs_map R f xs (λ i j d below within. pairs (suc i) (suc j) d (omega arith) (omega arith)))

-- a numbered item stands at its number
pub enumerated_at : {X : Type 0} (xs : List X) (entry : ℕ × X) → Contains (enumerate_from 0 xs) entry → At xs entry.0 entry.1
enumerated_at {X} xs entry has =
    let k : ℕ = has.0 in
    let within : k < length xs = subst (λ n. k < n) (length-enumerate_from 0 xs) has.1 in
    let is : entry ≡ (0 + k, get_or xs k entry.1) = sym has.2 ∙ get_or-enumerate_from 0 xs k entry within in
    let place : k ≡ entry.0 = sym (zero-add k) ∙ sym (ap (λ e. e.0) is) in
    let item : get_or xs k entry.1 ≡ entry.1 = sym (ap (λ e. e.1) is) in
    let P : ℕ → Type 0 = λ i. At xs i entry.1 in
    subst P place (slice_get-get_or xs k entry.1 within ∙ ap Some item)

-- and each item stands there with its number
pub numbered_at : {X : Type 0} (xs : List X) (i : ℕ) (x : X) → At xs i x → At (enumerate_from 0 xs) i (i, x)
numbered_at xs i x here = at_enumerated xs i x (slice_get_within xs i x here) (sym (get_or_from_slice_get xs i x x here))

-- one more item is looked at, and stays or goes
module _ {X : Type 0} (p : X → Bool) (xs : List X) (i : ℕ) (x : X) (here : At xs i x) where
  filter_more_at : filter p (take (i + 1) xs) ≡ filter p (take i xs) ++ cond (p x) (x ∷ []) []
  filter_more_at = filter_more p xs i x (slice_get_within xs i x here) ∙ ap (λ y. filter p (take i xs) ++ cond (p y) (y ∷ []) []) (get_or_from_slice_get xs i x x here)

  pub filter_kept : p x ≡ true → filter p (take (i + 1) xs) ≡ filter p (take i xs) ++ x ∷ []
  filter_kept passes = filter_more_at ∙ ap (λ b. filter p (take i xs) ++ cond b (x ∷ []) []) passes

  pub filter_left : p x ≡ false → filter p (take (i + 1) xs) ≡ filter p (take i xs)
  filter_left fails = filter_more_at ∙ ap (λ b. filter p (take i xs) ++ cond b (x ∷ []) []) fails ∙ append-nil (filter p (take i xs))

module _ {X : Type 0} (test : X → Bool) (xs : List X) where
  -- the place of an item that passes
  pub places_contain : (i : ℕ) (x : X) → At xs i x → test x ≡ true → Contains (places_of test xs) i
  places_contain i x here passes =
      contains_map (λ (entry : ℕ × X). entry.0) (filter (λ entry. test entry.1) (enumerate_from 0 xs)) (i, x)
      (contains_filter (λ entry. test entry.1) (enumerate_from 0 xs) (i, x) (contains_enumerated xs i x here) passes)

  -- at such a place stands an item that passes
  pub at_places : (i : ℕ) → Contains (places_of test xs) i → (x : X) × At xs i x × (test x ≡ true)
  at_places i has =
      let entry = map_contains (λ (entry : ℕ × X). entry.0) (filter (λ entry. test entry.1) (enumerate_from 0 xs)) i has in
      let kept = filter_contains (λ (e : ℕ × X). test e.1) (enumerate_from 0 xs) entry.0 entry.1 in
      let P : ℕ → Type 0 = λ k. At xs k entry.0.1 in
      (entry.0.1, subst P entry.2 (enumerated_at xs entry.0 kept.0), kept.1)

  -- each is below the later ones
  pub places_rise : AllPairs (λ i j. i < j) (places_of test xs)
  places_rise =
      let Below : ℕ × X → ℕ × X → Type 0 = λ one other. one.0 < other.0 in
      all_pairs_map (λ i j. i < j) (λ (entry : ℕ × X). entry.0) (filter (λ entry. test entry.1) (enumerate_from 0 xs))
      (AllPairs-filter Below (λ entry. test entry.1) (enumerate_from 0 xs) numbered)
    where
      numbered : AllPairs (λ (one : ℕ × X) (other : ℕ × X). one.0 < other.0) (enumerate_from 0 xs)
      numbered i j d below within =
          let inside : j < length xs = subst (λ n. j < n) (length-enumerate_from 0 xs) within in
          let first = ap (λ (e : ℕ × X). e.0) (get_or-enumerate_from 0 xs i d (omega arith)) in
          let second = ap (λ (e : ℕ × X). e.0) (get_or-enumerate_from 0 xs j d inside) in
          omega (arith, first, second, below)

-- the places of images that pass are those of the items whose images pass
module _ {X Y : Type 0} (f : X → Y) (test : Y → Bool) where
  same_kept : (b : Bool) (n : ℕ) (x : X) (entries : List (ℕ × X)) (others : List (ℕ × Y)) → map (λ entry. entry.0) others ≡ map (λ entry. entry.0) entries
      → map (λ (entry : ℕ × Y). entry.0) (cond b ((n, f x) ∷ others) others) ≡ map (λ (entry : ℕ × X). entry.0) (cond b ((n, x) ∷ entries) entries)
  same_kept true n x entries others same = ap (λ numbers. n ∷ numbers) same
  same_kept false n x entries others same = same

  places_from : (n : ℕ) (xs : List X) → map (λ (entry : ℕ × Y). entry.0) (filter (λ entry. test entry.1) (enumerate_from n (map f xs)))
      ≡ map (λ (entry : ℕ × X). entry.0) (filter (λ entry. test (f entry.1)) (enumerate_from n xs))
  places_from n [] = refl
  places_from n (x ∷ xs) = same_kept (test (f x)) n x (filter (λ entry. test (f entry.1)) (enumerate_from (n + 1) xs))
      (filter (λ entry. test entry.1) (enumerate_from (n + 1) (map f xs))) (places_from (n + 1) xs)

  pub places_of_images : (xs : List X) → places_of test (map f xs) ≡ places_of (λ x. test (f x)) xs
  places_of_images xs = places_from 0 xs
