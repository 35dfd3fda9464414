-- Lists that match item by item.
use Rattle.std.proofs.Common.{◌≡◌, ⊎_elim, ℕ, zero, suc, ◌<◌, List, [], ◌∷◌, map, length, Contains, AllPairs, Bool, true, refl, sym, subst, ◌∙◌, arith}
use Rattle.std.proofs.lemmas.Bool.{and_from, and_parts}
use Rattle.std.proofs.lemmas.List.Elements.{All-contains}
use Rattle.emc_base.specs.Lists.{At}
use Rattle.schema_laws.proofs.state_demand.lists.Lists.{head_stands, member_cases, none_in_nil, tail_stands}
use Rattle.regions.proofs.region_laws.lists.Choices.{pairs_head, pairs_tail}
use Rattle.region_states.specs.conflicts.SameFacts.{match_all}

module _ {X : Type 0} (m : X → X → Bool) where
  -- lists whose items match only where they are one are one
  pub match_same : ((x y : X) → m x y ≡ true → x ≡ y) → (xs ys : List X) → match_all m xs ys ≡ true → xs ≡ ys
  match_same same [] [] all = refl
  match_same same [] (y ∷ ys) all = cc
  match_same same (x ∷ xs) [] all = cc
  match_same same (x ∷ xs) (y ∷ ys) all =
      let both = and_parts (m x y) (match_all m xs ys) all in
      let head = same x y both.0 in
      let rest = match_same same xs ys both.1 in
      λ k. head k ∷ rest k

  -- and a list whose items match themselves matches itself
  pub match_self : ((x : X) → m x x ≡ true) → (xs : List X) → match_all m xs xs ≡ true
  match_self self [] = refl
  match_self self (x ∷ xs) = and_from (m x x) (match_all m xs xs) (self x) (match_self self xs)

  -- each item of the first list matches one of the second
  pub match_there : (xs ys : List X) → match_all m xs ys ≡ true → (x : X) → Contains xs x → (y : X) × Contains ys y × (m x y ≡ true)
  match_there [] ys all x has = absurd (none_in_nil x has)
  match_there (z ∷ xs) [] all x has = cc
  match_there (z ∷ xs) (w ∷ ys) all x has =
      let both = and_parts (m z w) (match_all m xs ys) all in
      ⊎_elim
      (λ (here : x ≡ z). (w, head_stands w ys, subst (λ one. m one w ≡ true) (sym here) both.0))
      (λ (later : Contains xs x). let rest = match_there xs ys both.1 x later in (rest.0, tail_stands w ys rest.0 rest.1, rest.2))
      (member_cases z xs x has)

  -- so do those of the second
  pub match_back : (xs ys : List X) → match_all m xs ys ≡ true → (y : X) → Contains ys y → (x : X) × Contains xs x × (m x y ≡ true)
  match_back xs [] all y has = absurd (none_in_nil y has)
  match_back [] (w ∷ ys) all y has = cc
  match_back (z ∷ xs) (w ∷ ys) all y has =
      let both = and_parts (m z w) (match_all m xs ys) all in
      ⊎_elim
      (λ (here : y ≡ w). (z, head_stands z xs, subst (λ one. m z one ≡ true) (sym here) both.0))
      (λ (later : Contains ys y). let rest = match_back xs ys both.1 y later in (rest.0, tail_stands z xs rest.0 rest.1, rest.2))
      (member_cases w ys y has)

  -- lists that rise by a number
  module _ (key : X → ℕ) where
    abbrev Rises : List X → Type 0
    Rises xs = AllPairs (λ one next. key one < key next) xs

    -- the head's number is below that of each later item, and these rise too
    after : (x : X) (xs : List X) → Rises (x ∷ xs) → (y : X) → Contains xs y → key x < key y
    after x xs rises y has = All-contains (λ next. key x < key next) xs y (pairs_head (λ one next. key one < key next) x xs rises) has

    later : (x : X) (xs : List X) → Rises (x ∷ xs) → Rises xs
    later x xs rises = pairs_tail (λ one next. key one < key next) x xs rises

    -- where items match only if they have one number, those of one number do
    pub match_by_key : ((x y : X) → m x y ≡ true → key x ≡ key y) → (xs ys : List X) → Rises xs → Rises ys → match_all m xs ys ≡ true
        → (x y : X) → Contains xs x → Contains ys y → key x ≡ key y → m x y ≡ true
    match_by_key told [] ys up_x up_y all x y has_x has_y same = absurd (none_in_nil x has_x)
    match_by_key told (z ∷ xs) [] up_x up_y all x y has_x has_y same = absurd (none_in_nil y has_y)
    match_by_key told (z ∷ xs) (w ∷ ys) up_x up_y all x y has_x has_y same =
        let both = and_parts (m z w) (match_all m xs ys) all in
        let heads : key z ≡ key w = told z w both.0 in
        ⊎_elim
        (λ (x_here : x ≡ z). ⊎_elim
        (λ (y_here : y ≡ w). subst (λ one. m one y ≡ true) (sym x_here) (subst (λ one. m z one ≡ true) (sym y_here) both.0))
        (λ (y_later : Contains ys y).
        let less = after w ys up_y y y_later in
        let at : key x ≡ key z = λ k. key (x_here k) in
        absurd (omega (arith, less, at)))
        (member_cases w ys y has_y))
        (λ (x_later : Contains xs x). ⊎_elim
        (λ (y_here : y ≡ w).
        let less = after z xs up_x x x_later in
        let at : key y ≡ key w = λ k. key (y_here k) in
        absurd (omega (arith, less, at)))
        (λ (y_later : Contains ys y). match_by_key told xs ys (later z xs up_x) (later w ys up_y) both.1 x y x_later y_later same)
        (member_cases w ys y has_y))
        (member_cases z xs x has_x)

    -- lists with the same numbers match where items of one number do
    pub keys_match : (xs ys : List X) → Rises xs → Rises ys
        → ((x : X) → Contains xs x → (y : X) × Contains ys y × (key x ≡ key y))
        → ((y : X) → Contains ys y → (x : X) × Contains xs x × (key x ≡ key y))
        → ((x y : X) → Contains xs x → Contains ys y → key x ≡ key y → m x y ≡ true)
        → match_all m xs ys ≡ true
    keys_match [] [] up_x up_y there back each = refl
    keys_match [] (w ∷ ys) up_x up_y there back each = let found = back w (head_stands w ys) in absurd (none_in_nil found.0 found.1)
    keys_match (z ∷ xs) [] up_x up_y there back each = let found = there z (head_stands z xs) in absurd (none_in_nil found.0 found.1)
    keys_match (z ∷ xs) (w ∷ ys) up_x up_y there back each =
        and_from (m z w) (match_all m xs ys) (each z w (head_stands z xs) (head_stands w ys) heads)
        (keys_match xs ys (later z xs up_x) (later w ys up_y) rest_there rest_back
        (λ x y has_x has_y same. each x y (tail_stands z xs x has_x) (tail_stands w ys y has_y) same))
      where
        heads : key z ≡ key w
        heads =
            let first = there z (head_stands z xs) in
            let second = back w (head_stands w ys) in
            ⊎_elim
            (λ (here : first.0 ≡ w). first.2 ∙ (λ k. key (here k)))
            (λ (above : Contains ys first.0). ⊎_elim
            (λ (here : second.0 ≡ z). (λ k. key (sym here k)) ∙ second.2)
            (λ (under : Contains xs second.0).
            let less = after w ys up_y first.0 above in
            let more = after z xs up_x second.0 under in
            let one : key z ≡ key first.0 = first.2 in
            let two : key second.0 ≡ key w = second.2 in
            absurd (omega (arith, less, more, one, two)))
            (member_cases z xs second.0 second.1))
            (member_cases w ys first.0 first.1)

        rest_there : (x : X) → Contains xs x → (y : X) × Contains ys y × (key x ≡ key y)
        rest_there x has =
            let found = there x (tail_stands z xs x has) in
            let same : key x ≡ key found.0 = found.2 in
            ⊎_elim
            (λ (here : found.0 ≡ w).
            let less = after z xs up_x x has in
            let at : key found.0 ≡ key w = λ k. key (here k) in
            let first : key z ≡ key w = heads in
            absurd (omega (arith, less, at, same, first)))
            (λ (rest : Contains ys found.0). (found.0, rest, same))
            (member_cases w ys found.0 found.1)

        rest_back : (y : X) → Contains ys y → (x : X) × Contains xs x × (key x ≡ key y)
        rest_back y has =
            let found = back y (tail_stands w ys y has) in
            let same : key found.0 ≡ key y = found.2 in
            ⊎_elim
            (λ (here : found.0 ≡ z).
            let less = after w ys up_y y has in
            let at : key found.0 ≡ key z = λ k. key (here k) in
            let first : key z ≡ key w = heads in
            absurd (omega (arith, less, at, same, first)))
            (λ (rest : Contains xs found.0). (found.0, rest, same))
            (member_cases z xs found.0 found.1)

module _ {X Y : Type 0} (m : Y → Y → Bool) (f g : X → Y) where
  -- where images match, those at one place do
  pub match_at : (xs ys : List X) → match_all m (map f xs) (map g ys) ≡ true → (i : ℕ) (x y : X) → At xs i x → At ys i y → m (f x) (g y) ≡ true
  match_at [] ys all i x y at there = cc
  match_at (z ∷ xs) [] all i x y at there = cc
  match_at (z ∷ xs) (w ∷ ys) all zero x y at there =
      let is_x : z ≡ x = cc in
      let is_y : w ≡ y = cc in
      let both = and_parts (m (f z) (g w)) (match_all m (map f xs) (map g ys)) all in
      subst (λ one. m (f one) (g y) ≡ true) is_x (subst (λ one. m (f z) (g one) ≡ true) is_y both.0)
  match_at (z ∷ xs) (w ∷ ys) all (suc i) x y at there =
      match_at xs ys (and_parts (m (f z) (g w)) (match_all m (map f xs) (map g ys)) all).1 i x y at there

  -- and lists of one length match where those at one place do
  pub places_match : (xs ys : List X) → length xs ≡ length ys → ((i : ℕ) (x y : X) → At xs i x → At ys i y → m (f x) (g y) ≡ true)
      → match_all m (map f xs) (map g ys) ≡ true
  places_match [] [] long each = refl
  places_match [] (w ∷ ys) long each = absurd (omega (arith, long))
  places_match (z ∷ xs) [] long each = absurd (omega (arith, long))
  places_match (z ∷ xs) (w ∷ ys) long each =
      and_from (m (f z) (g w)) (match_all m (map f xs) (map g ys)) (each 0 z w refl refl)
      (places_match xs ys (omega (arith, long)) (λ i x y at there. each (suc i) x y at there))
