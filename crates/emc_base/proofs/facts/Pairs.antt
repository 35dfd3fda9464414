-- What is so by pairs in two lists and between them, and what can't stand in both.
use Rattle.std.proofs.Common.{◌≡◌, ⊎_elim, List, [], ◌∷◌, ◌++◌, AllPairs, Contains, IsPermutation, sym, subst, ◌∙◌, arith}
use Rattle.std.proofs.lemmas.List.Elements.{All-append, Contains-append_right}
use Rattle.std.proofs.lemmas.List.Kept.{AllPairs-cons}
use Rattle.std.proofs.lemmas.List.Sorted.{IsPermutation-refl}
use Rattle.emc_base.specs.Lists.{AreApart}
use Rattle.emc_base.proofs.Joined.{pairs_head, pairs_tail}
use Rattle.emc_base.proofs.Lists.{all_from_members}
use Rattle.emc_base.proofs.Members.{apart_head, apart_tail, contains_cons_cases, contains_head, contains_nil, contains_tail}

module _ {X : Type 0} where
  pub pairs_nil : (R : X → X → Type 0) → AllPairs R []
  pairs_nil R i j d below within = absurd (omega arith)

  -- two lists behind one another: what is so by pairs in each, and between the two
  pub pairs_append : (R : X → X → Type 0) (xs ys : List X) → AllPairs R xs → AllPairs R ys → ((x y : X) → Contains xs x → Contains ys y → R x y) → AllPairs R (xs ++ ys)
  pairs_append R [] ys first second between = second
  pairs_append R (x ∷ xs) ys first second between = AllPairs-cons R x (xs ++ ys)
      (All-append (R x) xs ys (pairs_head R x xs first) (all_from_members (R x) ys (λ y has. between x y (contains_head x xs) has)))
      (pairs_append R xs ys (pairs_tail R x xs first) second (λ z y has other. between z y (contains_tail x xs z has) other))

  -- where no item stands twice, none stands in both of two lists behind one another
  pub apart_between : (xs ys : List X) (x : X) → AreApart (xs ++ ys) → Contains xs x → Contains ys x → ⊥
  apart_between [] ys x apart first second = contains_nil x first
  apart_between (z ∷ zs) ys x apart first second = ⊎_elim
      (λ (here : x ≡ z). apart_head z (zs ++ ys) apart (let P : X → Type 0 = λ w. Contains (zs ++ ys) w in subst P here (Contains-append_right zs ys x second)))
      (λ (later : Contains zs x). apart_between zs ys x (apart_tail z (zs ++ ys) apart) later second)
      (contains_cons_cases z zs x first)

  -- two empty lists are the same in any order
  pub both_none : (xs ys : List X) → xs ≡ [] → ys ≡ [] → IsPermutation xs ys
  both_none xs ys no_xs no_ys = subst (IsPermutation xs) (no_xs ∙ sym no_ys) (IsPermutation-refl xs)
