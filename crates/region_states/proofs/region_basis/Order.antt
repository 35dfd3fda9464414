-- Lists joined of lists that rise.
use Rattle.std.proofs.Common.{List, [], ◌∷◌, ◌++◌, flat_map, AllPairs, Contains}
use Rattle.std.proofs.lemmas.List.Elements.{All-append, All-contains}
use Rattle.std.proofs.lemmas.List.Kept.{AllPairs-cons}
use Rattle.emc_base.proofs.Lists.{all_from_members}
use Rattle.schema_laws.proofs.state_demand.lists.Lists.{head_stands, member_of_flat_map, tail_stands}
use Rattle.regions.proofs.region_laws.lists.Choices.{pairs_head, pairs_nil, pairs_tail}

-- what is so by pairs in each list, and between them
pairs_append : {X : Type 0} (R : X → X → Type 0) (xs ys : List X) → AllPairs R xs → AllPairs R ys → ((x y : X) → Contains xs x → Contains ys y → R x y) → AllPairs R (xs ++ ys)
pairs_append R [] ys first second between = second
pairs_append R (x ∷ xs) ys first second between = AllPairs-cons R x (xs ++ ys)
    (All-append (R x) xs ys (pairs_head R x xs first) (all_from_members (R x) ys (λ y has. between x y (head_stands x xs) has)))
    (pairs_append R xs ys (pairs_tail R x xs first) second (λ z y has other. between z y (tail_stands x xs z has) other))

pub pairs_joined : {X Y : Type 0} (S : X → X → Type 0) (R : Y → Y → Type 0) (f : X → List Y) (xs : List X) → ((x : X) → AllPairs R (f x))
    → ((x z : X) (y w : Y) → S x z → Contains (f x) y → Contains (f z) w → R y w) → AllPairs S xs → AllPairs R (flat_map f xs)
pairs_joined S R f [] each between pairs = pairs_nil R
pairs_joined S R f (x ∷ xs) each between pairs = pairs_append R (f x) (flat_map f xs) (each x) (pairs_joined S R f xs each between (pairs_tail S x xs pairs))
    (λ y w first later.
    let found = member_of_flat_map f xs w later in
    between x found.0 y w (All-contains (S x) xs found.0 (pairs_head S x xs pairs) found.1) first found.2)
