-- Lists of choices rise towards what they are compared with.
use Rattle.std.proofs.Common.{◌≡◌, ◌∷◌, List, [], map, flat_map, AllPairs, Contains, refl, ap, subst, ◌∙◌}
use Rattle.std.specs.declared.cmp.Ordering.{Ordering}
use Rattle.std.specs.declared.cmp.Ordering.TheVariants.{Less, Equal, Greater}
use Rattle.std.specs.Ordering.{ordering_then}
use Rattle.std.proofs.lemmas.List.Elements.{All-contains, All-nil}
use Rattle.std.proofs.lemmas.List.Kept.{AllPairs-cons}
use Rattle.emc_base.proofs.Lists.{all_from_members}
use Rattle.emc_base.proofs.Numbered.{all_pairs_map, map_contains}
use Rattle.emc_base.proofs.facts.Pairs.{pairs_append}
use Rattle.schema_laws.proofs.state_demand.lists.Lists.{head_stands, member_of_flat_map, tail_stands}
use Rattle.regions.specs.Lists.{choices}
use Rattle.region_partition.specs.region_search.Standing.{Rises, Stand}
use Rattle.regions.proofs.region_laws.lists.Choices.{pairs_head, pairs_nil, pairs_tail}

-- both are Equal
pub then_equal : (one two : Ordering) → ordering_then one two ≡ Equal → (one ≡ Equal) × (two ≡ Equal)
then_equal Less two is = absurd (let none : ⊥ = cc in none)
then_equal Equal two is = (refl, is)
then_equal Greater two is = absurd (let none : ⊥ = cc in none)

-- what follows isn't looked at
pub stand_first : (one later rest other : Ordering) → Stand one later → Stand (ordering_then one rest) (ordering_then later other)
stand_first one later rest other stand = (
  λ is. ap (λ o. ordering_then o rest) (stand.0 (then_equal later other is).0),
  λ is. ap (λ o. ordering_then o other) (stand.1 (then_equal one rest is).0),
)

-- what goes before is one
pub stand_next : (first one later : Ordering) → Stand one later → Stand (ordering_then first one) (ordering_then first later)
stand_next first one later stand = (
  λ is. let both = then_equal first later is in ap (λ o. ordering_then o one) both.0 ∙ stand.0 both.1,
  λ is. let both = then_equal first one is in ap (λ o. ordering_then o later) both.0 ∙ stand.1 both.1,
)

module _ {X : Type 0} where
  pub pairs_one : (R : X → X → Type 0) (x : X) → AllPairs R (x ∷ [])
  pairs_one R x = AllPairs-cons R x [] (All-nil (R x)) (pairs_nil R)

  -- what follows for members
  pub pairs_also : (R S : X → X → Type 0) (xs : List X) → ((x y : X) → Contains xs x → Contains xs y → R x y → S x y) → AllPairs R xs → AllPairs S xs
  pairs_also R S [] weaker pairs = pairs_nil S
  pairs_also R S (x ∷ xs) weaker pairs = AllPairs-cons S x xs
      (all_from_members (S x) xs (λ y has. weaker x y (head_stands x xs) (tail_stands x xs y has) (All-contains (R x) xs y (pairs_head R x xs pairs) has)))
      (pairs_also R S xs (λ y z has_y has_z. weaker y z (tail_stands x xs y has_y) (tail_stands x xs z has_z)) (pairs_tail R x xs pairs))

pub pairs_joined : {X Y : Type 0} (S : X → X → Type 0) (R : Y → Y → Type 0) (f : X → List Y) (xs : List X) → ((x : X) → Contains xs x → AllPairs R (f x))
    → ((x z : X) (y w : Y) → S x z → Contains (f x) y → Contains (f z) w → R y w) → AllPairs S xs → AllPairs R (flat_map f xs)
pairs_joined S R f [] each between pairs = pairs_nil R
pairs_joined S R f (x ∷ xs) each between pairs = pairs_append R (f x) (flat_map f xs) (each x (head_stands x xs))
    (pairs_joined S R f xs (λ z has. each z (tail_stands x xs z has)) between (pairs_tail S x xs pairs))
    (λ y w first later.
    let found = member_of_flat_map f xs w later in
    between x found.0 y w (All-contains (S x) xs found.0 (pairs_head S x xs pairs) found.1) first found.2)

module _ {K X : Type 0} (cmp : K → X → Ordering) where
  -- the first of the answers for each item by its key
  abbrev pub all_by : List K → List X → Ordering
  all_by [] xs = Equal
  all_by (k ∷ ks) [] = Equal
  all_by (k ∷ ks) (x ∷ xs) = ordering_then (cmp k x) (all_by ks xs)

  -- choices of lists that rise, rise
  pub choices_rise : (f : K → List X) (ks : List K) → ((k : K) → Rises (cmp k) (f k)) → Rises (all_by ks) (choices (map f ks))
  choices_rise f [] each = pairs_one (λ one later. Stand (all_by [] one) (all_by [] later)) []
  choices_rise f (k ∷ ks) each = pairs_joined (λ x z. Stand (cmp k x) (cmp k z)) (λ one later. Stand (all_by (k ∷ ks) one) (all_by (k ∷ ks) later))
      (λ (x : X). map (λ others. x ∷ others) (choices (map f ks))) (f k)
      (λ x has. all_pairs_map (λ one later. Stand (all_by (k ∷ ks) one) (all_by (k ∷ ks) later)) (λ (others : List X). x ∷ others) (choices (map f ks))
      (pairs_also (λ one later. Stand (all_by ks one) (all_by ks later)) (λ one later. Stand (ordering_then (cmp k x) (all_by ks one)) (ordering_then (cmp k x) (all_by ks later)))
      (choices (map f ks))
      (λ one later has_one has_later stand. stand_next (cmp k x) (all_by ks one) (all_by ks later) stand)
      (choices_rise f ks each)))
      (λ x z one later stand by_x by_z.
      let first = map_contains (λ (others : List X). x ∷ others) (choices (map f ks)) one by_x in
      let second = map_contains (λ (others : List X). z ∷ others) (choices (map f ks)) later by_z in
      let P : List X → Type 0 = λ list. Stand (all_by (k ∷ ks) list) (all_by (k ∷ ks) later) in
      let Q : List X → Type 0 = λ list. Stand (all_by (k ∷ ks) (x ∷ first.0)) (all_by (k ∷ ks) list) in
      subst P first.2 (subst Q second.2 (stand_first (cmp k x) (cmp k z) (all_by ks first.0) (all_by ks second.0) stand)))
      (each k)
