-- Lists put behind one another, filtered, numbered and mapped, and what stands in them.
use Rattle.std.proofs.Common.{Bool, true, false, cond, filter, ◌≡◌, ◌≢◌, ⊎_elim, ℕ, zero, suc, ◌+◌, List, [], ◌∷◌, ◌++◌, length, map, get_or, All, AllPairs, Contains, Option, Some, None, option_map, refl, sym, ap, subst, ◌∙◌, arith}
use Rattle.std.specs.List.{cons_option, enumerate_from, filter_map, flat_map}
use Rattle.std.proofs.lemmas.List.Elements.{All-append, All-contains, All-head, All-map, All-tail, Contains-append_cases, Contains-append_left}
use Rattle.std.proofs.lemmas.List.Kept.{AllPairs-cons}
use Rattle.std.proofs.lemmas.Option.{slice_get-get_or, slice_get-map}
use Rattle.std.proofs.lemmas.List.Concat.{flat_map-cons}
use Rattle.emc_base.specs.Lists.{At}
use Rattle.emc_base.proofs.Lists.{all_from_members}
use Rattle.emc_base.proofs.Members.{apart_head, apart_tail, contains_nil, contains_cons_cases, contains_head, contains_tail}

module _ {X : Type 0} where
  -- an item of the first of two lists
  pub at_left : (xs ys : List X) (i : ℕ) (x : X) → At xs i x → At (xs ++ ys) i x
  at_left [] ys i x is = absurd cc
  at_left (y ∷ xs) ys zero x is = is
  at_left (y ∷ xs) ys (suc i) x is = at_left xs ys i x is

  -- an item of the second
  pub at_right : (xs ys : List X) (i j : ℕ) (x : X) → length xs + i ≡ j → At ys i x → At (xs ++ ys) j x
  at_right [] ys i j x same is = let here : i ≡ j = omega arith in let P : ℕ → Type 0 = λ k. At ys k x in subst P here is
  at_right (y ∷ xs) ys i zero x same is = absurd (omega arith)
  at_right (y ∷ xs) ys i (suc j) x same is = at_right xs ys i j x (omega arith) is

  -- a list without length has no items
  pub none_long : (xs : List X) → length xs ≡ 0 → xs ≡ []
  none_long [] none = refl
  none_long (x ∷ xs) none = absurd (omega arith)

  -- items numbered on
  pub enumerate-append : (n m : ℕ) (xs ys : List X) → n + length xs ≡ m → enumerate_from n (xs ++ ys) ≡ enumerate_from n xs ++ enumerate_from m ys
  enumerate-append n m [] ys same = let here : n ≡ m = omega arith in ap (λ k. enumerate_from k ys) here
  enumerate-append n m (x ∷ xs) ys same = ap (λ entries. (n, x) ∷ entries) (enumerate-append (n + 1) m xs ys (omega arith))

  -- a numbered item stands at its number
  pub in_enumerated : (n : ℕ) (xs : List X) (entry : ℕ × X) → Contains (enumerate_from n xs) entry → (k : ℕ) × (n + k ≡ entry.0) × At xs k entry.1
  in_enumerated n [] entry has = absurd (contains_nil entry has)
  in_enumerated n (x ∷ xs) entry (zero, within, is) = (zero, (let number : n ≡ entry.0 = ap (λ e. e.0) is in omega arith), ap (λ e. Some e.1) is)
  in_enumerated n (x ∷ xs) entry (suc i, within, is) =
      let later = in_enumerated (n + 1) xs entry (i, omega arith, is) in
      (suc later.0, (let number : (n + 1) + later.0 ≡ entry.0 = later.1 in omega arith), later.2)

  -- a filter keeps what passes, and drops the rest
  pub filter-keeps : (p : X → Bool) (x : X) (xs : List X) → p x ≡ true → filter p (x ∷ xs) ≡ x ∷ filter p xs
  filter-keeps p x xs passes = ap (λ kept. cond kept (x ∷ filter p xs) (filter p xs)) passes

  pub filter-drops : (p : X → Bool) (x : X) (xs : List X) → p x ≡ false → filter p (x ∷ xs) ≡ filter p xs
  filter-drops p x xs fails = ap (λ kept. cond kept (x ∷ filter p xs) (filter p xs)) fails

  -- from what holds of each item at its place
  pub all_from_places : (P : X → Type 0) (xs : List X) → ((i : ℕ) (x : X) → At xs i x → P x) → All P xs
  all_from_places P xs holds k d within = holds k (get_or xs k d) (slice_get-get_or xs k d within)

  -- the first of a list goes with each of the rest, and these with one another
  pub pairs_head : (R : X → X → Type 0) (x : X) (xs : List X) → AllPairs R (x ∷ xs) → All (R x) xs
  pairs_head R x xs pairs = λ k d within. pairs 0 (suc k) d (omega arith) (omega arith)

  pub pairs_tail : (R : X → X → Type 0) (x : X) (xs : List X) → AllPairs R (x ∷ xs) → AllPairs R xs
  pairs_tail R x xs pairs = λ i j d below within. pairs (suc i) (suc j) d (omega arith) (omega arith)

  -- what goes for two lists behind one another goes for the first
  pub apart-left : (R : X → X → Type 0) (xs ys : List X) → AllPairs R (xs ++ ys) → AllPairs R xs
  apart-left R [] ys pairs = λ i j d below within. absurd (omega arith)
  apart-left R (x ∷ xs) ys pairs = AllPairs-cons R x xs
      (all_from_members (R x) xs (λ z has. All-contains (R x) (xs ++ ys) z (pairs_head R x (xs ++ ys) pairs) (Contains-append_left xs ys z has)))
      (apart-left R xs ys (pairs_tail R x (xs ++ ys) pairs))

  -- each of one list goes with each of the other
  pub apart-append : (R : X → X → Type 0) (xs ys : List X) → AllPairs R xs → AllPairs R ys → All (λ x. All (R x) ys) xs → AllPairs R (xs ++ ys)
  apart-append R [] ys first second both = second
  apart-append R (x ∷ xs) ys first second both = AllPairs-cons R x (xs ++ ys)
      (All-append (R x) xs ys (pairs_head R x xs first) (All-head (λ z. All (R z) ys) x xs both))
      (apart-append R xs ys (pairs_tail R x xs first) second (All-tail (λ z. All (R z) ys) x xs both))

module _ {X Y : Type 0} where
  -- what stands in one of the lists
  pub in_flat_map : (f : X → List Y) (xs : List X) (y : Y) → Contains (flat_map f xs) y → (x : X) × Contains xs x × Contains (f x) y
  in_flat_map f [] y has = absurd (contains_nil y has)
  in_flat_map f (x ∷ xs) y has = ⊎_elim
      (λ (here : Contains (f x) y). (x, contains_head x xs, here))
      (λ (later : Contains (flat_map f xs) y). let found = in_flat_map f xs y later in (found.0, contains_tail x xs found.0 found.1, found.2))
      (Contains-append_cases (f x) (flat_map f xs) y (let P : List Y → Type 0 = λ ys. Contains ys y in subst P (flat_map-cons f x xs) has))

  -- the image of the item at a place
  pub at_map : (f : X → Y) (xs : List X) (i : ℕ) (x : X) → At xs i x → At (map f xs) i (f x)
  at_map f xs i x is = slice_get-map f xs i ∙ ap (option_map f) is

  -- items mapped with their numbers
  pub at_numbered : (f : ℕ → X → Y) (n : ℕ) (xs : List X) (i m : ℕ) (x : X) → n + i ≡ m → At xs i x → At (map (λ entry. f entry.0 entry.1) (enumerate_from n xs)) i (f m x)
  at_numbered f n [] i m x same is = absurd cc
  at_numbered f n (y ∷ xs) zero m x same is = let number : n ≡ m = omega arith in let item : y ≡ x = cc in λ k. Some (f (number k) (item k))
  at_numbered f n (y ∷ xs) (suc i) m x same is = at_numbered f (n + 1) xs i m x (omega arith) is

  pub numbered_at : (f : ℕ → X → Y) (n : ℕ) (xs : List X) (i m : ℕ) (y : Y) → n + i ≡ m → At (map (λ entry. f entry.0 entry.1) (enumerate_from n xs)) i y → (x : X) × At xs i x × (y ≡ f m x)
  numbered_at f n [] i m y same is = absurd cc
  numbered_at f n (x ∷ xs) zero m y same is = let number : n ≡ m = omega arith in let item : f n x ≡ y = cc in (x, refl, sym item ∙ ap (λ k. f k x) number)
  numbered_at f n (x ∷ xs) (suc i) m y same is = numbered_at f (n + 1) xs i m y (omega arith) is

  -- items that the function tells apart
  pub apart-map : (f : X → Y) (xs : List X) → AllPairs (λ x y. f x ≢ f y) xs → AllPairs (λ x y. x ≢ y) (map f xs)
  apart-map f [] apart = λ i j d below within. absurd (omega arith)
  apart-map f (x ∷ xs) apart = AllPairs-cons (λ a b. a ≢ b) (f x) (map f xs)
      (All-map (λ y. f x ≢ y) f xs (pairs_head (λ y z. f y ≢ f z) x xs apart))
      (apart-map f xs (pairs_tail (λ y z. f y ≢ f z) x xs apart))

  -- what is found of items for each of which there is something
  module _ (h : X → Option Y) where
    -- something that is found is found of an item
    pub in_found : (xs : List X) (y : Y) → Contains (filter_map h xs) y → (x : X) × Contains xs x × (h x ≡ Some y)
    in_found [] y has = absurd (contains_nil y has)
    in_found (x ∷ xs) y has = by (h x) refl has (λ later. let rest = in_found xs y later in (rest.0, contains_tail x xs rest.0 rest.1, rest.2))
      where
        by : (found : Option Y) → h x ≡ found → Contains (cons_option found (filter_map h xs)) y
            → (Contains (filter_map h xs) y → (z : X) × Contains (x ∷ xs) z × (h z ≡ Some y)) → (z : X) × Contains (x ∷ xs) z × (h z ≡ Some y)
        by None is here rest = rest here
        by (Some z) is here rest = ⊎_elim
            (λ (same : y ≡ z). (x, contains_head x xs, is ∙ ap Some (sym same)))
            (λ (later : Contains (filter_map h xs) y). rest later)
            (contains_cons_cases z (filter_map h xs) y here)

    -- where there is something for each item, there is as much as there are items
    pub found_length : (xs : List X) → ((x : X) → Contains xs x → (y : Y) × (h x ≡ Some y)) → length (filter_map h xs) ≡ length xs
    found_length [] all = refl
    found_length (x ∷ xs) all =
        ap (λ found. length (cons_option found (filter_map h xs))) (all x (contains_head x xs)).1
        ∙ ap suc (found_length xs (λ z has. all z (contains_tail x xs z has)))

    -- and where no two items have the same, each once
    pub found_apart : ((x z : X) (y : Y) → h x ≡ Some y → h z ≡ Some y → x ≡ z) → (xs : List X) → AllPairs (λ x z. x ≢ z) xs → AllPairs (λ y z. y ≢ z) (filter_map h xs)
    found_apart one [] apart = λ i j d below within. absurd (omega arith)
    found_apart one (x ∷ xs) apart = by (h x) refl (found_apart one xs (apart_tail x xs apart))
      where
        by : (found : Option Y) → h x ≡ found → AllPairs (λ y z. y ≢ z) (filter_map h xs) → AllPairs (λ y z. y ≢ z) (cons_option found (filter_map h xs))
        by None is rest = rest
        by (Some y) is rest = AllPairs-cons (λ y z. y ≢ z) y (filter_map h xs)
            (all_from_members (λ z. y ≢ z) (filter_map h xs) (λ z has same. let item = in_found xs z has in
            let P : X → Type 0 = λ w. Contains xs w in
            apart_head x xs apart (subst P (one item.0 x z item.2 (is ∙ ap Some same)) item.1)))
            rest
