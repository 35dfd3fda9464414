-- Lists that match item by item, walked by places.
use Rattle.std.proofs.Common.{◌≡◌, ◌≢◌, ⊎_elim, ◌&&◌, ◌+◌, ◌<◌, ◌≤◌, ℕ, zero, suc, List, [], ◌∷◌, map, length, Contains, Bool, true, false, refl, sym, ap, subst, ◌∙◌, arith}
use Rattle.std.proofs.lemmas.Bool.{and_from, and_parts, cases_eq}
use Rattle.std.proofs.lemmas.Option.{slice_get_within}
use Rattle.emc_base.proofs.Lists.{at_once}
use Rattle.emc_base.specs.Lists.{At}
use Rattle.emc_base.proofs.facts.Tests.{fails_by}
use Rattle.schema_laws.proofs.state_demand.lists.Lists.{head_stands, tail_stands}
use Rattle.regions.specs.Settled.{Settled, known, free}
use Rattle.region_states.specs.conflicts.SameFacts.{are_compatible, match_all}
use Rattle.containment.specs.same_conflicts.Matching.{can_be_same, held_by}

module _ {X : Type 0} (m : X → X → Bool) where
  -- lists that match have as many items
  pub match_sizes : (xs ys : List X) → match_all m xs ys ≡ true → length xs ≡ length ys
  match_sizes [] [] all = refl
  match_sizes [] (y ∷ ys) all = cc
  match_sizes (x ∷ xs) [] all = cc
  match_sizes (x ∷ xs) (y ∷ ys) all = let rest = match_sizes xs ys (and_parts (m x y) (match_all m xs ys) all).1 in ap suc rest

  -- and those at one place do
  pub match_place : (xs ys : List X) → match_all m xs ys ≡ true → (i : ℕ) (x y : X) → At xs i x → At ys i y → m x y ≡ true
  match_place [] ys all i x y at there = cc
  match_place (z ∷ xs) [] all i x y at there = cc
  match_place (z ∷ xs) (w ∷ ys) all zero x y at there =
      let is_x : z ≡ x = cc in
      let is_y : w ≡ y = cc in
      let both = and_parts (m z w) (match_all m xs ys) all in
      subst (λ one. m one y ≡ true) is_x (subst (λ one. m z one ≡ true) is_y both.0)
  match_place (z ∷ xs) (w ∷ ys) all (suc i) x y at there = match_place xs ys (and_parts (m z w) (match_all m xs ys) all).1 i x y at there

  -- the other way
  pub match_places : (xs ys : List X) → length xs ≡ length ys → ((i : ℕ) (x y : X) → At xs i x → At ys i y → m x y ≡ true) → match_all m xs ys ≡ true
  match_places [] [] long each = refl
  match_places [] (w ∷ ys) long each = absurd (omega (arith, long))
  match_places (z ∷ xs) [] long each = absurd (omega (arith, long))
  match_places (z ∷ xs) (w ∷ ys) long each =
      and_from (m z w) (match_all m xs ys) (each 0 z w refl refl) (match_places xs ys (omega (arith, long)) (λ i x y at there. each (suc i) x y at there))

  -- lists that haven't as many items don't match
  pub no_match_sizes : (xs ys : List X) → length xs ≢ length ys → match_all m xs ys ≡ false
  no_match_sizes xs ys other = fails_by (match_all m xs ys) (λ all. other (match_sizes xs ys all))

  -- nor do those with items at one place that don't
  pub no_match_place : (xs ys : List X) (i : ℕ) (x y : X) → At xs i x → At ys i y → m x y ≡ false → match_all m xs ys ≡ false
  no_match_place xs ys i x y at there fails =
      fails_by (match_all m xs ys) (λ all. let holds = match_place xs ys all i x y at there in let never : true ≡ false = sym holds ∙ fails in cc)

  -- those at the first so many places match
  abbrev pub MatchBelow : ℕ → List X → List X → Type 0
  MatchBelow n xs ys = (k : ℕ) → k < n → (x y : X) → At xs k x → At ys k y → m x y ≡ true

  -- and those at one place more
  pub match_more : (n : ℕ) (xs ys : List X) → MatchBelow n xs ys → (x y : X) → At xs n x → At ys n y → m x y ≡ true → MatchBelow (n + 1) xs ys
  match_more n xs ys below x y at there told k under z w at_z at_w = ⊎_elim
      (λ (here : k ≡ n).
      let is_x : x ≡ z = at_once xs n x z at (subst (λ place. At xs place z) here at_z) in
      let is_y : y ≡ w = at_once ys n y w there (subst (λ place. At ys place w) here at_w) in
      subst (λ one. m one w ≡ true) is_x (subst (λ one. m x one ≡ true) is_y told))
      (λ (other : k ≢ n). below k (omega (arith, under, other)) z w at_z at_w)
      (cases_eq k n)

  -- up to all
  pub match_below_all : (n : ℕ) (xs ys : List X) → length xs ≡ length ys → length xs ≤ n → MatchBelow n xs ys → match_all m xs ys ≡ true
  match_below_all n xs ys long passed below =
      match_places xs ys long (λ i x y at there. below i (let within = slice_get_within xs i x at in omega (arith, within, passed)) x y at there)

  -- a list whose images are those of another matches it, where items of one image match
  pub match_images : {Y : Type 0} (f : X → Y) → ((x y : X) → f x ≡ f y → m x y ≡ true) → (xs ys : List X) → map f xs ≡ map f ys → match_all m xs ys ≡ true
  match_images f told [] [] same = refl
  match_images f told [] (y ∷ ys) same = cc
  match_images f told (x ∷ xs) [] same = cc
  match_images f told (x ∷ xs) (y ∷ ys) same =
      let head : f x ≡ f y = cc in
      let rest : map f xs ≡ map f ys = cc in
      and_from (m x y) (match_all m xs ys) (told x y head) (match_images f told xs ys rest)

-- and has the images of the other, where items that match have one image
pub images_match : {X Y : Type 0} (m : X → X → Bool) (f g : X → Y) (xs ys : List X) → ((x y : X) → Contains xs x → Contains ys y → m x y ≡ true → f x ≡ g y)
    → match_all m xs ys ≡ true → map f xs ≡ map g ys
images_match m f g [] [] told all = refl
images_match m f g [] (y ∷ ys) told all = cc
images_match m f g (x ∷ xs) [] told all = cc
images_match m f g (x ∷ xs) (y ∷ ys) told all =
    let both = and_parts (m x y) (match_all m xs ys) all in
    let head : f x ≡ g y = told x y (head_stands x xs) (head_stands y ys) both.0 in
    let rest : map f xs ≡ map g ys = images_match m f g xs ys (λ z w has has_too. told z w (tail_stands x xs z has) (tail_stands y ys w has_too)) both.1 in
    λ k. head k ∷ rest k

-- lists that match do so the other way round, where their items do
pub match_turned : {X : Type 0} (m n : X → X → Bool) → ((x y : X) → m x y ≡ true → n y x ≡ true) → (xs ys : List X) → match_all m xs ys ≡ true → match_all n ys xs ≡ true
match_turned m n told [] [] all = refl
match_turned m n told [] (y ∷ ys) all = cc
match_turned m n told (x ∷ xs) [] all = cc
match_turned m n told (x ∷ xs) (y ∷ ys) all =
    let both = and_parts (m x y) (match_all m xs ys) all in
    and_from (n y x) (match_all n ys xs) (told x y both.0) (match_turned m n told xs ys both.1)

-- images match where their items do
pub match_mapped : {X Y : Type 0} (m : Y → Y → Bool) (f g : X → Y) (xs ys : List X) → match_all m (map f xs) (map g ys) ≡ match_all (λ x y. m (f x) (g y)) xs ys
match_mapped m f g [] [] = refl
match_mapped m f g [] (y ∷ ys) = refl
match_mapped m f g (x ∷ xs) [] = refl
match_mapped m f g (x ∷ xs) (y ∷ ys) = ap (λ rest. m (f x) (g y) && rest) (match_mapped m f g xs ys)

-- cells that settle so can hold the same
pub compatible_is : (one two : Settled) → can_be_same (held_by one) (held_by two) ≡ are_compatible one two
compatible_is (known v) (known w) = refl
compatible_is (known v) (free s n) = refl
compatible_is (free s n) (known v) = refl
compatible_is (free s n) (free r m) = refl
