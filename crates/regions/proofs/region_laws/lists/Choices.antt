-- Lists of choices, lists beside one another, and lists without repeats.
use Rattle.std.proofs.Common.{◌≡◌, ◌≢◌, ⊎_elim, List, [], ◌∷◌, ◌++◌, map, flat_map, All, Contains, sym, ap, subst, ◌∙◌}
use Rattle.std.specs.List.{AllZip}
use Rattle.std.proofs.lemmas.List.Elements.{All-append, All-contains, All-head, All-nil, All-tail}
use Rattle.std.proofs.lemmas.List.Kept.{AllPairs-cons}
use Rattle.emc_base.specs.Lists.{AreApart}
use Rattle.emc_base.proofs.Lists.{all_from_members}
use Rattle.emc_base.proofs.Mapped.{contains_map}
use Rattle.emc_base.proofs.Numbered.{map_contains}
use Rattle.regions.specs.Lists.{choices}
use Rattle.schema_laws.proofs.state_demand.lists.Lists.{contains_flat_map, head_stands, member_cases, member_of_flat_map, none_in_nil, tail_stands}
pub use Rattle.emc_base.proofs.facts.Pairs.{pairs_nil}
pub use Rattle.emc_base.proofs.Joined.{pairs_head, pairs_tail}

module _ {X : Type 0} where
  -- two lists behind one another, without a common member
  pub apart_append : (xs ys : List X) → AreApart xs → AreApart ys → ((x : X) → Contains xs x → Contains ys x → ⊥) → AreApart (xs ++ ys)
  apart_append [] ys first second between = second
  apart_append (x ∷ xs) ys first second between =
      AllPairs-cons (λ one two. one ≢ two) x (xs ++ ys)
      (All-append (λ y. x ≢ y) xs ys (pairs_head (λ one two. one ≢ two) x xs first)
      (all_from_members (λ y. x ≢ y) ys (λ y has same. between x (head_stands x xs) (subst (Contains ys) (sym same) has))))
      (apart_append xs ys (pairs_tail (λ one two. one ≢ two) x xs first) second (λ z has other. between z (tail_stands x xs z has) other))

  -- one item
  pub apart_one : (x : X) → AreApart (x ∷ [])
  apart_one x = AllPairs-cons (λ one two. one ≢ two) x [] (All-nil (λ y. x ≢ y)) (pairs_nil (λ one two. one ≢ two))

module _ {X Y : Type 0} (f : X → Y) where
  -- images of different items that are different
  pub apart_map : (xs : List X) → ((x z : X) → Contains xs x → Contains xs z → f x ≡ f z → x ≡ z) → AreApart xs → AreApart (map f xs)
  apart_map [] one apart = pairs_nil (λ x y. x ≢ y)
  apart_map (x ∷ xs) one apart = AllPairs-cons (λ a b. a ≢ b) (f x) (map f xs)
      (all_from_members (λ y. f x ≢ y) (map f xs) (λ y has same.
      let found = map_contains f xs y has in
      All-contains (λ z. x ≢ z) xs found.0 (pairs_head (λ a b. a ≢ b) x xs apart) found.1
      (one x found.0 (head_stands x xs) (tail_stands x xs found.0 found.1) (same ∙ sym found.2))))
      (apart_map xs (λ z w has_z has_w. one z w (tail_stands x xs z has_z) (tail_stands x xs w has_w)) (pairs_tail (λ a b. a ≢ b) x xs apart))

module _ {X Y : Type 0} (f : X → List Y) where
  -- lists without repeats of different items that share no member
  pub apart_flat_map : (xs : List X) → ((x : X) → Contains xs x → AreApart (f x)) → ((x z : X) (y : Y) → Contains xs x → Contains xs z → Contains (f x) y
      → Contains (f z) y → x ≡ z)
      → AreApart xs → AreApart (flat_map f xs)
  apart_flat_map [] each one apart = pairs_nil (λ x y. x ≢ y)
  apart_flat_map (x ∷ xs) each one apart = apart_append (f x) (flat_map f xs) (each x (head_stands x xs))
      (apart_flat_map xs (λ z has. each z (tail_stands x xs z has)) (λ z w y has_z has_w. one z w y (tail_stands x xs z has_z) (tail_stands x xs w has_w)) (pairs_tail
      (λ a b. a ≢ b) x xs apart))
      (λ y first later.
      let found = member_of_flat_map f xs y later in
      All-contains (λ z. x ≢ z) xs found.0 (pairs_head (λ a b. a ≢ b) x xs apart) found.1
      (one x found.0 y (head_stands x xs) (tail_stands x xs found.0 found.1) first found.2))

-- what holds of items beside one another
module _ {K C : Type 0} where
  -- the first parts are members of the first list
  pub zip_also : (R : K → C → Type 0) (P : K → Type 0) (ks : List K) (cs : List C) → AllZip R ks cs → All P ks → AllZip (λ k c. P k × R k c) ks cs
  zip_also R P [] [] zipped all = tt
  zip_also R P [] (c ∷ cs) zipped all = absurd zipped
  zip_also R P (k ∷ ks) [] zipped all = absurd zipped
  zip_also R P (k ∷ ks) (c ∷ cs) zipped all = ((All-head P k ks all, zipped.0), zip_also R P ks cs zipped.1 (All-tail P k ks all))

  -- and the second ones of the second
  pub zip_too : (R : K → C → Type 0) (P : C → Type 0) (ks : List K) (cs : List C) → AllZip R ks cs → All P cs → AllZip (λ k c. P c × R k c) ks cs
  zip_too R P [] [] zipped all = tt
  zip_too R P [] (c ∷ cs) zipped all = absurd zipped
  zip_too R P (k ∷ ks) [] zipped all = absurd zipped
  zip_too R P (k ∷ ks) (c ∷ cs) zipped all = ((All-head P c cs all, zipped.0), zip_too R P ks cs zipped.1 (All-tail P c cs all))

  pub zip_weaker : (R S : K → C → Type 0) → ((k : K) (c : C) → R k c → S k c) → (ks : List K) (cs : List C) → AllZip R ks cs → AllZip S ks cs
  zip_weaker R S weaker [] [] zipped = tt
  zip_weaker R S weaker [] (c ∷ cs) zipped = absurd zipped
  zip_weaker R S weaker (k ∷ ks) [] zipped = absurd zipped
  zip_weaker R S weaker (k ∷ ks) (c ∷ cs) zipped = (weaker k c zipped.0, zip_weaker R S weaker ks cs zipped.1)

  -- a choice has an item of each list
  pub choice_each : (f : K → List C) (ks : List K) (choice : List C) → Contains (choices (map f ks)) choice → AllZip (λ k c. Contains (f k) c) ks choice
  choice_each f [] choice has = ⊎_elim
      (λ (here : choice ≡ []). subst (AllZip (λ k c. Contains (f k) c) []) (sym here) tt)
      (λ (later : Contains [] choice). absurd (none_in_nil choice later))
      (member_cases [] [] choice has)
  choice_each f (k ∷ ks) choice has =
      let found = member_of_flat_map (λ (c : C). map (λ others. c ∷ others) (choices (map f ks))) (f k) choice has in
      let rest = map_contains (λ (others : List C). found.0 ∷ others) (choices (map f ks)) choice found.2 in
      subst (AllZip (λ one c. Contains (f one) c) (k ∷ ks)) rest.2 (found.1, choice_each f ks rest.0 rest.1)

  -- and what has an item of each list is a choice
  pub choice_there : (f : K → List C) (ks : List K) (choice : List C) → AllZip (λ k c. Contains (f k) c) ks choice → Contains (choices (map f ks)) choice
  choice_there f [] [] zipped = head_stands [] []
  choice_there f [] (c ∷ cs) zipped = absurd zipped
  choice_there f (k ∷ ks) [] zipped = absurd zipped
  choice_there f (k ∷ ks) (c ∷ cs) zipped =
      contains_flat_map (λ (one : C). map (λ others. one ∷ others) (choices (map f ks))) (f k) c (c ∷ cs) zipped.0
      (contains_map (λ (others : List C). c ∷ others) (choices (map f ks)) cs (choice_there f ks cs zipped.1))

  -- a choice by a function
  pub choice_by : (f : K → List C) (g : K → C) (ks : List K) → All (λ k. Contains (f k) (g k)) ks → Contains (choices (map f ks)) (map g ks)
  choice_by f g ks all = choice_there f ks (map g ks) (zip_by ks all)
    where
      zip_by : (ks : List K) → All (λ k. Contains (f k) (g k)) ks → AllZip (λ k c. Contains (f k) c) ks (map g ks)
      zip_by [] all = tt
      zip_by (k ∷ ks) all = (All-head (λ one. Contains (f one) (g one)) k ks all, zip_by ks (All-tail (λ one. Contains (f one) (g one)) k ks all))

abbrev heads_are : {C : Type 0} → C → List C → C
heads_are d [] = d
heads_are d (c ∷ cs) = c

abbrev tails_are : {C : Type 0} → List C → List C
tails_are [] = []
tails_are (c ∷ cs) = cs

-- no choice stands twice where no item does
pub choices_apart : {C : Type 0} (xss : List (List C)) → All AreApart xss → AreApart (choices xss)
choices_apart {C} [] all = apart_one []
choices_apart {C} (xs ∷ rest) all =
    apart_flat_map (λ (x : C). map (λ others. x ∷ others) (choices rest)) xs
    (λ x has. apart_map (λ (others : List C). x ∷ others) (choices rest) (λ one two has_one has_two same. ap tails_are same)
    (choices_apart rest (All-tail AreApart xs rest all)))
    (λ x z choice has_x has_z by_x by_z.
    let one = map_contains (λ (others : List C). x ∷ others) (choices rest) choice by_x in
    let two = map_contains (λ (others : List C). z ∷ others) (choices rest) choice by_z in
    ap (heads_are x) (one.2 ∙ sym two.2))
    (All-head AreApart xs rest all)
