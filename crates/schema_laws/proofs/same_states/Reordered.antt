-- What holds of a list in any order.
use Rattle.std.proofs.Common.{◌≡◌, ⊎_elim, ℕ, ◌<◌, ◌≤◌, List, length, get_or, All, Any, AllPairs, IsPermutation, refl, sym, ap, subst, ◌∙◌, arith}
use Rattle.std.specs.List.{swap}
use Rattle.std.proofs.lemmas.Bool.{cases_eq, cases_lt}
use Rattle.std.proofs.lemmas.List.Edits.{Swapped, length-swap, swapped_from_swap}
use Rattle.std.proofs.lemmas.List.Elements.{All-contains}
use Rattle.std.proofs.lemmas.List.Sorted.{Contains-permutation, IsPermutation-keeps, IsPermutation-sym}
use Rattle.std.proofs.lemmas.Option.{get_or_from_slice_get, slice_get-get_or, slice_get_within}
use Rattle.emc_base.specs.Lists.{AtMostOne}
use Rattle.emc_base.proofs.Lists.{all_from_members}
use Rattle.schema_laws.proofs.state_demand.lists.Lists.{any_of, of_any}

-- where the item of a place comes from when two items change places
record ComesFrom {X : Type 0} (before after : ℕ → X) (a b n place : ℕ) : Type 0 where
  from : ℕ
  within : from < n
  is : after place ≡ before from
  first : place ≡ a → from ≡ b
  second : place ≡ b → from ≡ a
  other : (place ≡ a → ⊥) → (place ≡ b → ⊥) → from ≡ place

comes_from : {X : Type 0} (before after : ℕ → X) (a b n : ℕ) → Swapped before after a b → a < n → b < n → (place : ℕ) → place < n → ComesFrom before after a b n place
comes_from before after a b n swapped a_in b_in place place_in = ⊎_elim
    (λ (here : place ≡ a). record {
      from = b;
      within = b_in;
      is = ap after here ∙ swapped.0;
      first = λ same. refl;
      second = λ (same : place ≡ b). omega (arith, here, same);
      other = λ no never. absurd (no here);
    })
    (λ (no : place ≡ a → ⊥). ⊎_elim
    (λ (here : place ≡ b). record {
      from = a;
      within = a_in;
      is = ap after here ∙ swapped.1;
      first = λ same. absurd (no same);
      second = λ same. refl;
      other = λ never not_here. absurd (not_here here);
    })
    (λ (never : place ≡ b → ⊥). record {
      from = place;
      within = place_in;
      is = swapped.2 place no never;
      first = λ same. absurd (no same);
      second = λ same. absurd (never same);
      other = λ one two. refl;
    })
    (cases_eq place b))
    (cases_eq place a)

-- items of two places come from two places
two_places : (a b i j s t : ℕ) → (i ≡ j → ⊥) → (i ≡ a → s ≡ b) → (i ≡ b → s ≡ a) → ((i ≡ a → ⊥) → (i ≡ b → ⊥) → s ≡ i)
    → (j ≡ a → t ≡ b) → (j ≡ b → t ≡ a) → ((j ≡ a → ⊥) → (j ≡ b → ⊥) → t ≡ j) → s ≡ t → ⊥
two_places a b i j s t differ i_first i_second i_other j_first j_second j_other same = grind arith

module _ {X : Type 0} (R : X → X → Type 0) (flips : (x y : X) → R x y → R y x) where
  at_two : (list : List X) (s t : ℕ) (d : X) → AllPairs R list → (s ≡ t → ⊥) → s < length list → t < length list → R (get_or list s d) (get_or list t d)
  at_two list s t d holds differ s_in t_in = ⊎_elim
      (λ (below : s < t). holds s t d below t_in)
      (λ (above : t ≤ s). flips (get_or list t d) (get_or list s d) (holds t s d (omega arith) s_in))
      (cases_lt s t)

  after_swap : (list : List X) (a b : ℕ) → a < length list → b < length list → AllPairs R list → AllPairs R (swap list a b)
  after_swap list a b a_in b_in holds i j d below within =
      let long = length-swap list a b in
      let before : ℕ → X = λ place. get_or list place d in
      let after : ℕ → X = λ place. get_or (swap list a b) place d in
      let swapped : Swapped before after a b = swapped_from_swap list (swap list a b) a b d a_in b_in refl in
      let one : ComesFrom before after a b (length list) i = comes_from before after a b (length list) swapped a_in b_in i (omega arith) in
      let two : ComesFrom before after a b (length list) j = comes_from before after a b (length list) swapped a_in b_in j (omega arith) in
      let apart = two_places a b i j one.from two.from (λ (same : i ≡ j). omega arith) one.first one.second one.other two.first two.second two.other in
      rw (one.is, two.is) (at_two list one.from two.from d holds apart one.within two.within)

  -- what holds of any two items, either way round
  pub pairs_in_any_order : (xs ys : List X) → IsPermutation xs ys → AllPairs R xs → AllPairs R ys
  pairs_in_any_order xs ys moved holds = IsPermutation-keeps xs (AllPairs R) holds after_swap ys moved

module _ {X : Type 0} (P : X → Type 0) where
  -- not of both
  abbrev NotBoth : X → X → Type 0
  NotBoth x y = ¬ (P x × P y)

  apart_by_one : (xs : List X) → AtMostOne P xs → AllPairs NotBoth xs
  apart_by_one xs one i j d below within both =
      let same : i ≡ j = one i j (get_or xs i d) (get_or xs j d) (slice_get-get_or xs i d (omega arith)) (slice_get-get_or xs j d within) both.0 both.1 in
      omega (arith, same)

  one_by_apart : (xs : List X) → AllPairs NotBoth xs → AtMostOne P xs
  one_by_apart xs apart i j x y i_at j_at of_x of_y = ⊎_elim
      (λ (here : i ≡ j). here)
      (λ (differ : i ≡ j → ⊥). absurd (at_two NotBoth (λ one two never both. never (both.1, both.0)) xs i j x apart differ
      (slice_get_within xs i x i_at) (slice_get_within xs j y j_at)
      (subst P (sym (get_or_from_slice_get xs i x x i_at)) of_x, subst P (sym (get_or_from_slice_get xs j y x j_at)) of_y)))
      (cases_eq i j)

  -- some item of which it holds
  pub any_in_any_order : (xs ys : List X) → IsPermutation xs ys → Any P xs → Any P ys
  any_in_any_order xs ys moved some =
      let found = of_any P xs some in
      any_of P ys found.0 (Contains-permutation xs ys found.0 moved found.1) found.2

  -- at most one item of which it holds
  pub one_in_any_order : (xs ys : List X) → IsPermutation xs ys → AtMostOne P xs → AtMostOne P ys
  one_in_any_order xs ys moved one =
      one_by_apart ys (pairs_in_any_order NotBoth (λ x y never both. never (both.1, both.0)) xs ys moved (apart_by_one xs one))

  -- what is so of each item, where what held of it before gives it
  pub all_in_any_order : (Q : X → Type 0) → ((x : X) → P x → Q x) → (xs ys : List X) → IsPermutation xs ys → All P xs → All Q ys
  all_in_any_order Q gives xs ys moved all =
      all_from_members Q ys (λ x has. gives x (All-contains P xs x all (Contains-permutation ys xs x (IsPermutation-sym xs ys moved) has)))
