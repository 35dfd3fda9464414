-- Names and ids that differ, by tests that compute.
use Rattle.std.proofs.Common.{◌≡◌, ◌≢◌, ℕ, List, [], ◌∷◌, Bool, false, map, ap}
use Rattle.std.specs.Prelude.{◌==◌, bytes_eq, true}
use Rattle.std.specs.Bool.{Decides}
use Rattle.std.specs.List.{AllByRecursion}
use Rattle.std.proofs.lemmas.Bool.Decides.{Decides-eqb, not_from_Decides}
use Rattle.std.proofs.lemmas.Slice.Eq.{bytes_eq-Decides}
use Rattle.round_trip.specs.Words.{PropId, ColId, AssocId}
use Rattle.worked_examples.proofs.facts.Small.{PairsByRecursion}
use Rattle.emc_base.specs.Lists.{AreApart}
use Rattle.worked_examples.proofs.sound_examples.Lists.{apart}
use Rattle.worked_examples.proofs.sound_examples.Tests.{are_new, all_new}

pub names_apart : (names : List (List ℕ)) → are_new bytes_eq names ≡ true → AreApart names
names_apart names test = apart names (all_new bytes_eq bytes_eq-Decides names test)

module _ {X : Type 0} where
  -- what holds of the names of items holds of these
  pub each_named : (P : List ℕ → Type 0) (name : X → List ℕ) (xs : List X) → AllByRecursion P (map name xs) → AllByRecursion (λ x. P (name x)) xs
  each_named P name [] each = tt
  each_named P name (x ∷ xs) each = (each.0, each_named P name xs each.1)

  pub pairs_named : (R : List ℕ → List ℕ → Type 0) (name : X → List ℕ) (xs : List X) → PairsByRecursion R (map name xs) → PairsByRecursion (λ x y. R (name x) (name y)) xs
  pairs_named R name [] each = tt
  pairs_named R name (x ∷ xs) each = (each_named (R (name x)) name xs each.0, pairs_named R name xs each.1)

pub each_two_named : {X Y : Type 0} (R : List ℕ → List ℕ → Type 0) (name : X → List ℕ) (other_name : Y → List ℕ) (xs : List X) (ys : List Y)
    → AllByRecursion (λ x. AllByRecursion (R x) (map other_name ys)) (map name xs) → AllByRecursion (λ x. AllByRecursion (λ y. R (name x) (other_name y)) ys) xs
each_two_named R name other_name [] ys each = tt
each_two_named R name other_name (x ∷ xs) ys each = (each_named (R (name x)) other_name ys each.0, each_two_named R name other_name xs ys each.1)

-- ids are the same if their numbers are
module _ {X : Type 0} (number : X → ℕ) (only : (x y : X) → number x ≡ number y → x ≡ y) where
  numbers_decide : (x y : X) → Decides (number x == number y) (x ≡ y)
  numbers_decide x y = (
    (λ test. only x y ((Decides-eqb (number x) (number y)).0 test)),
    (λ same. (Decides-eqb (number x) (number y)).1 (ap number same)),
  )

-- two ids of one sort have one number
abbrev pub same_prop : PropId → PropId → Bool
same_prop p q = p.index == q.index

abbrev pub same_col : ColId → ColId → Bool
same_col c d = c.index == d.index

abbrev pub same_assoc : AssocId → AssocId → Bool
same_assoc a b = a.index == b.index

pub props_decide : (p q : PropId) → Decides (same_prop p q) (p ≡ q)
props_decide p q = numbers_decide (λ prop. prop.index) (λ one other is. λ i. record { index = is i }) p q

pub cols_decide : (c d : ColId) → Decides (same_col c d) (c ≡ d)
cols_decide c d = numbers_decide (λ col. col.index) (λ one other is. λ i. record { index = is i }) c d

pub assocs_decide : (a b : AssocId) → Decides (same_assoc a b) (a ≡ b)
assocs_decide a b = numbers_decide (λ assoc. assoc.index) (λ one other is. λ i. record { index = is i }) a b

-- ids of different numbers differ
pub other_number : (i j : ℕ) → (i == j) ≡ false → i ≢ j
other_number i j test = not_from_Decides (i == j) (Decides-eqb i j) test

pub other_prop : (p q : PropId) → same_prop p q ≡ false → p ≢ q
other_prop p q test = not_from_Decides (same_prop p q) (props_decide p q) test

pub other_col : (c d : ColId) → same_col c d ≡ false → c ≢ d
other_col c d test = not_from_Decides (same_col c d) (cols_decide c d) test
