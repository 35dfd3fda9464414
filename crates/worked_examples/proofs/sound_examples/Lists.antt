-- Facts on short lists, beside those of `worked_examples`.
use Rattle.std.proofs.Common.{◌≡◌, ◌≢◌, List, [], ◌∷◌, refl}
use Rattle.std.specs.Prelude.{All, Contains}
use Rattle.std.specs.List.{AllByRecursion}
use Rattle.std.proofs.lemmas.List.Elements.{All-from_recursion, All-cons, All-nil}
use Rattle.worked_examples.proofs.facts.Small.{each_of, here, PairsByRecursion, all_pairs}
use Rattle.emc_base.specs.Lists.{AreApart, HoldsEachOnce}

module _ {X : Type 0} where
  -- each item is another one
  pub not_among : (xs : List X) (x : X) → AllByRecursion (λ y. x ≢ y) xs → ¬ Contains xs x
  not_among xs x others among = each_of (λ y. x ≢ y) xs x others among refl

  pub apart : (xs : List X) → PairsByRecursion (λ x y. x ≢ y) xs → AreApart xs
  apart xs each = all_pairs (λ x y. x ≢ y) xs each

  pub all : (P : X → Type 0) (xs : List X) → AllByRecursion P xs → All P xs
  all P xs each = All-from_recursion P xs each

  -- no item of the one list stands in the other
  pub none_among : (xs ys : List X) → AllByRecursion (λ y. AllByRecursion (λ x. y ≢ x) xs) ys → All (λ y. ¬ Contains xs y) ys
  none_among xs [] others = All-from_recursion (λ y. ¬ Contains xs y) [] tt
  none_among xs (y ∷ ys) others = All-cons (λ z. ¬ Contains xs z) y ys (not_among xs y others.0) (none_among xs ys others.1)

-- P of each item of the list of each item
pub all_all : {X Y : Type 0} (P : X → Y → Type 0) (ys : X → List Y) (xs : List X) → AllByRecursion (λ x. AllByRecursion (P x) (ys x)) xs
    → All (λ x. All (P x) (ys x)) xs
all_all P ys [] each = All-nil (λ x. All (P x) (ys x))
all_all P ys (x ∷ xs) each = All-cons (λ z. All (P z) (ys z)) x xs (All-from_recursion (P x) (ys x) each.0) (all_all P ys xs each.1)

-- what follows from Q of each item
pub all_from : {X : Type 0} (P Q : X → Type 0) (xs : List X) → ((x : X) → Q x → P x) → AllByRecursion Q xs → All P xs
all_from P Q [] by each = All-nil P
all_from P Q (x ∷ xs) by each = All-cons P x xs (by x each.0) (all_from P Q xs by each.1)

-- a list of the one item holds it once
pub one_held : {X : Type 0} (x : X) → HoldsEachOnce (x ∷ []) (x ∷ [])
one_held x = record {
  once = apart (x ∷ []) (tt, tt);
  all = All-from_recursion (Contains (x ∷ [])) (x ∷ []) (here x [], tt);
  only = All-from_recursion (Contains (x ∷ [])) (x ∷ []) (here x [], tt);
}

pub head_same : {X : Type 0} {x y : X} {xs ys : List X} → x ∷ xs ≡ y ∷ ys → x ≡ y
head_same e = cc
