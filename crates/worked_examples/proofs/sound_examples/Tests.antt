-- Tests that compute: of the items of a list, and of names and ids by these.
use Rattle.std.proofs.Common.{◌≡◌, ◌≢◌, List, [], ◌∷◌, ◌&&◌, Bool, true, not, subst, refl}
use Rattle.std.specs.Prelude.{Option, Some, None, MatchOption, All, Any, Contains, ⊤}
use Rattle.std.specs.Option.{option_map_or}
use Rattle.std.specs.Bool.{Decides}
use Rattle.std.specs.List.{AllByRecursion, list_any, list_all}
use Rattle.std.proofs.lemmas.Bool.{and_parts, not-true}
use Rattle.std.proofs.lemmas.Bool.Decides.{not_from_Decides}
use Rattle.std.proofs.lemmas.List.Folds.{Any-from_list_any}
use Rattle.worked_examples.proofs.facts.Small.{each_of, PairsByRecursion}
use Rattle.worked_examples.proofs.sound_examples.Lists.{all}

-- what a test tells of each item, and of some
module _ {X : Type 0} (P : X → Type 0) (test : X → Bool) (tells : (x : X) → test x ≡ true → P x) where
  pub each_passes : (xs : List X) → list_all test xs ≡ true → AllByRecursion P xs
  each_passes [] passed = tt
  each_passes (x ∷ xs) passed =
      let parts = and_parts (test x) (list_all test xs) passed in
      (tells x parts.0, each_passes xs parts.1)

  pub all_pass : (xs : List X) → list_all test xs ≡ true → All P xs
  all_pass xs passed = all P xs (each_passes xs passed)

  pub passes_if_some : (o : Option X) → option_map_or test o true ≡ true → MatchOption o ⊤ P
  passes_if_some None passed = tt
  passes_if_some (Some x) passed = tells x passed

  pub any_passes : (xs : List X) → list_any test xs ≡ true → Any P xs
  any_passes xs passed =
      let some = Any-from_list_any test xs passed in
      (some.0, some.1, some.2, some.3, tells some.1 some.4)

-- all of these are true
abbrev pub all_true : List Bool → Bool
all_true tests = list_all (λ test. test) tests

pub each_true : (tests : List Bool) → all_true tests ≡ true → AllByRecursion (λ test. test ≡ true) tests
each_true tests passed = each_passes (λ (test : Bool). test ≡ true) (λ test. test) (λ test is. is) tests passed

module _ {X : Type 0} (same : X → X → Bool) where
  -- the item is one of these
  abbrev pub is_among : List X → X → Bool
  is_among xs x = list_any (λ y. same y x) xs

  -- the item is none of these
  abbrev pub is_new : X → List X → Bool
  is_new x xs = list_all (λ y. not (same x y)) xs

  -- no item stands twice
  abbrev pub are_new : List X → Bool
  are_new [] = true
  are_new (x ∷ xs) = is_new x xs && are_new xs

  -- no item of the first list stands in the second
  abbrev pub share_none : List X → List X → Bool
  share_none xs ys = list_all (λ x. is_new x ys) xs

  module _ (decides : (x y : X) → Decides (same x y) (x ≡ y)) where
    pub among : (xs : List X) (x : X) → is_among xs x ≡ true → Contains xs x
    among xs x passed =
        let some : Any (λ y. y ≡ x) xs = any_passes (λ y. y ≡ x) (λ y. same y x) (λ y. (decides y x).0) xs passed in
        subst (Contains xs) some.4 (some.0, some.2, some.3)

    pub new : (x : X) (xs : List X) → is_new x xs ≡ true → AllByRecursion (λ y. x ≢ y) xs
    new x xs passed = each_passes (λ y. x ≢ y) (λ y. not (same x y)) (λ y test. not_from_Decides (same x y) (decides x y) (not-true (same x y) test)) xs passed

    pub not_in : (x : X) (xs : List X) → is_new x xs ≡ true → ¬ Contains xs x
    not_in x xs passed has = each_of (λ y. x ≢ y) xs x (new x xs passed) has refl

    pub all_new : (xs : List X) → are_new xs ≡ true → PairsByRecursion (λ x y. x ≢ y) xs
    all_new [] passed = tt
    all_new (x ∷ xs) passed =
        let parts = and_parts (is_new x xs) (are_new xs) passed in
        (new x xs parts.0, all_new xs parts.1)

    pub none_shared : (xs ys : List X) → share_none xs ys ≡ true → AllByRecursion (λ x. AllByRecursion (λ y. x ≢ y) ys) xs
    none_shared xs ys passed = each_passes (λ x. AllByRecursion (λ y. x ≢ y) ys) (λ x. is_new x ys) (λ x test. new x ys test) xs passed
