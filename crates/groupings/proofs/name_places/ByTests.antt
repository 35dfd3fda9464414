-- That lists hold names, and that no name stands twice, by tests that compute.
use Rattle.std.proofs.Common.{◌≡◌, ◌≢◌, ℕ, zero, suc, ◌<◌, ◌&&◌, Bool, true, false, not, List, [], ◌∷◌, get_or, All, AllPairs, Any, Contains, refl, sym, subst, arith}
use Rattle.std.specs.List.{list_all, list_any}
use Rattle.std.specs.Set.{is_member}
use Rattle.std.specs.Str.{bytes_eq}
use Rattle.std.proofs.lemmas.Bool.{both_ways}
use Rattle.std.proofs.lemmas.List.Folds.{list_any_at}
use Rattle.std.proofs.lemmas.Map.Made.{is_member-Decides}
use Rattle.std.proofs.lemmas.Slice.Eq.{bytes_eq-Decides}
use Rattle.emc_base.specs.Lists.{HoldsEachOnce}
use Rattle.emc_base.proofs.Joined.{all_from_places}
use Rattle.emc_base.proofs.Lists.{apart_by_test, passes_at}

-- a name is none of these
pub not_among : (name : List ℕ) (names : List (List ℕ)) → list_any (bytes_eq name) names ≡ false → ¬ Contains names name
not_among name names none has =
    both_ways (list_any (bytes_eq name) names) none (list_any_at (bytes_eq name) names has.0 name has.1 ((bytes_eq-Decides name (get_or names has.0 name)).1 (sym has.2)))

module _ {X : Type 0} (name_in : X → List ℕ) where
  -- no two items have one name
  abbrev pub differ : List X → Bool
  differ [] = true
  differ (x ∷ xs) = not (list_any (λ other. bytes_eq (name_in other) (name_in x)) xs) && differ xs

  -- as the test tells
  pub differ_tells : (items : List X) → differ items ≡ true → AllPairs (λ one other. name_in one ≢ name_in other) items
  differ_tells = apart_by_test (λ one other. name_in one ≢ name_in other) (λ one other. bytes_eq (name_in one) (name_in other)) differ (λ x xs. refl)
      (λ one other clash same. both_ways (bytes_eq (name_in other) (name_in one)) clash ((bytes_eq-Decides (name_in other) (name_in one)).1 (sym same)))

  -- the item's name is none of these
  abbrev pub is_new : List (List ℕ) → X → Bool
  is_new others x = not (list_any (bytes_eq (name_in x)) others)

-- the name is one of these
abbrev pub is_in : List (List ℕ) → List ℕ → Bool
is_in names name = is_member bytes_eq names name

-- so it is of all
all_in : (names these : List (List ℕ)) → list_all (is_in names) these ≡ true → All (Contains names) these
all_in names these test = all_from_places (Contains names) these (λ i name here. (is_member-Decides bytes_eq-Decides names name).0 (passes_at (is_in names) these i name test here))

-- a list holds each of these once
pub each_once : (these names : List (List ℕ)) → differ (λ name. name) names ≡ true → list_all (is_in names) these ≡ true → list_all (is_in these) names ≡ true → HoldsEachOnce these names
each_once these names apart all only = record { once = differ_tells (λ name. name) names apart; all = all_in names these all; only = all_in these names only }

-- none of two items
pub none_of_two : {X : Type 0} (P : X → Type 0) (one other : X) → ¬ P one → ¬ P other → ¬ Any P (one ∷ other ∷ [])
none_of_two P one other first second (zero, x, within, is, holds) = first (subst P (sym is) holds)
none_of_two P one other first second (suc zero, x, within, is, holds) = second (subst P (sym is) holds)
none_of_two P one other first second (suc (suc k), x, within, is, holds) = let inside : suc (suc k) < 2 = within in absurd (omega arith)
