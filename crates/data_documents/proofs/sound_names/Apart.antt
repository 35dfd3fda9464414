-- Items that are so by pairs, with images of some of the items behind them.
use Rattle.std.proofs.Common.{inl, inr, suc, List, [], ◌∷◌, ◌++◌, map, filter, All, AllPairs, Contains, Bool, subst, arith}
use Rattle.std.proofs.lemmas.List.Elements.{All-contains, Contains-append_cases, Contains-append_left, Contains-append_right}
use Rattle.std.proofs.lemmas.List.Kept.{AllPairs-cons, AllPairs-filter}
use Rattle.emc_base.proofs.Lists.{all_from_members}
use Rattle.emc_base.proofs.Mapped.{contains_map}
use Rattle.emc_base.proofs.Numbered.{all_pairs_map, filter_contains, map_contains}

module _ {X Y : Type 0} (R : X → X → Type 0) (f : Y → X) where
  -- members are so by pairs as their images are
  pub pairs_of_images : (ys : List Y) → AllPairs R (map f ys) → AllPairs (λ a b. R (f a) (f b)) ys
  pairs_of_images [] pairs = λ i j d below within. absurd (omega arith)
  pairs_of_images (y ∷ ys) pairs =
      let head : All (R (f y)) (map f ys) = λ k d within. pairs 0 (suc k) d (omega arith) (omega arith) in
      AllPairs-cons (λ a b. R (f a) (f b)) y ys
      (all_from_members (λ b. R (f y) (f b)) ys (λ b has. All-contains (R (f y)) (map f ys) (f b) head (contains_map f ys b has)))
      (pairs_of_images ys (λ i j d below within. pairs (suc i) (suc j) d (omega arith) (omega arith)))

  module _ (p : Y → Bool) (ys : List Y) where
    -- what stands before images, or is one of some
    still_there : (xs : List X) (x : X) → Contains (xs ++ map f (filter p ys)) x → Contains (xs ++ map f ys) x
    still_there xs x has = elim (Contains-append_cases xs (map f (filter p ys)) x has) [
      | inl before ↦ Contains-append_left xs (map f ys) x before
      | inr image ↦
          let of = map_contains f (filter p ys) x image in
          let P : X → Type 0 = λ z. Contains (map f ys) z in
          Contains-append_right xs (map f ys) x (subst P of.2 (contains_map f ys of.0 (filter_contains p ys of.0 of.1).0))
    ]

    pub pairs_with_some : (xs : List X) → AllPairs R (xs ++ map f ys) → AllPairs R (xs ++ map f (filter p ys))
    pairs_with_some [] pairs = all_pairs_map R f (filter p ys) (AllPairs-filter (λ a b. R (f a) (f b)) p ys (pairs_of_images ys pairs))
    pairs_with_some (x ∷ xs) pairs =
        let head : All (R x) (xs ++ map f ys) = λ k d within. pairs 0 (suc k) d (omega arith) (omega arith) in
        AllPairs-cons R x (xs ++ map f (filter p ys))
        (all_from_members (R x) (xs ++ map f (filter p ys)) (λ z has. All-contains (R x) (xs ++ map f ys) z head (still_there xs z has)))
        (pairs_with_some xs (λ i j d below within. pairs (suc i) (suc j) d (omega arith) (omega arith)))
