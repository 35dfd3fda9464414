-- What is so by pairs of the items of lists.
use Rattle.std.proofs.Common.{List, [], ◌∷◌, ◌++◌, flat_map, get_or, AllPairs, Contains, arith}
use Rattle.std.proofs.lemmas.List.Elements.{All-append, All-contains, Contains-get_or}
use Rattle.std.proofs.lemmas.List.Kept.{AllPairs-cons}
use Rattle.emc_base.proofs.Lists.{all_from_members}
use Rattle.schema_laws.proofs.state_demand.lists.Lists.{head_stands, member_of_flat_map, tail_stands}
use Rattle.regions.proofs.region_laws.lists.Choices.{pairs_head, pairs_nil, pairs_tail}

module _ {X : Type 0} (R : X → X → Type 0) where
  -- in each of two lists, and between them
  pub pairs_append : (xs ys : List X) → AllPairs R xs → AllPairs R ys → ((x y : X) → Contains xs x → Contains ys y → R x y) → AllPairs R (xs ++ ys)
  pairs_append [] ys first second between = second
  pairs_append (x ∷ xs) ys first second between = AllPairs-cons R x (xs ++ ys)
      (All-append (R x) xs ys (pairs_head R x xs first) (all_from_members (R x) ys (λ y has. between x y (head_stands x xs) has)))
      (pairs_append xs ys (pairs_tail R x xs first) second (λ z y has other. between z y (tail_stands x xs z has) other))

  -- of the members of a list, where something else is so of them
  pub pairs_of_members : (S : X → X → Type 0) (xs : List X) → ((x y : X) → Contains xs x → Contains xs y → S x y → R x y) → AllPairs S xs → AllPairs R xs
  pairs_of_members S xs told pairs i j d below within =
      told (get_or xs i d) (get_or xs j d) (Contains-get_or xs i d (omega (arith, below, within))) (Contains-get_or xs j d within) (pairs i j d below within)

-- in the lists of each item, and between those of different items
pub pairs_flat_map : {X Y : Type 0} (S : X → X → Type 0) (R : Y → Y → Type 0) (f : X → List Y) (xs : List X) → ((x : X) → Contains xs x → AllPairs R (f x))
    → ((x z : X) (y w : Y) → Contains xs x → Contains xs z → S x z → Contains (f x) y → Contains (f z) w → R y w) → AllPairs S xs → AllPairs R (flat_map f xs)
pairs_flat_map S R f [] each between pairs = pairs_nil R
pairs_flat_map S R f (x ∷ xs) each between pairs = pairs_append R (f x) (flat_map f xs) (each x (head_stands x xs))
    (pairs_flat_map S R f xs (λ z has. each z (tail_stands x xs z has))
    (λ a b y w has_a has_b. between a b y w (tail_stands x xs a has_a) (tail_stands x xs b has_b)) (pairs_tail S x xs pairs))
    (λ y w first later.
    let found = member_of_flat_map f xs w later in
    between x found.0 y w (head_stands x xs) (tail_stands x xs found.0 found.1) (All-contains (S x) xs found.0 (pairs_head S x xs pairs) found.1) first found.2)
