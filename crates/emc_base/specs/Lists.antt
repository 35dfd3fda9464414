-- Words for lists, beside those of std.
use Rattle.std.specs.Prelude.{◌≡◌, ◌≢◌, ℕ, List, Bool, Some, filter, map, slice_get, All, AllPairs, Contains}
use Rattle.std.specs.List.{enumerate_from}

-- the item at a place
abbrev pub At : {X : Type 0} → List X → ℕ → X → Type 0
At items place item = slice_get items place ≡ Some item

-- no two places hold an item of which P holds
abbrev pub AtMostOne : {X : Type 0} → (X → Type 0) → List X → Type 0
AtMostOne {X} P items = (i j : ℕ) (x y : X) → At items i x → At items j y → P x → P y → i ≡ j

-- the places of the items that pass the test, in order
abbrev pub places_of : {X : Type 0} → (X → Bool) → List X → List ℕ
places_of test items = map (λ place. place.0) (filter (λ place. test place.1) (enumerate_from 0 items))

-- no item stands twice
abbrev pub AreApart : {X : Type 0} → List X → Type 0
AreApart items = AllPairs (λ x y. x ≢ y) items

-- the list holds each of these once, in any order, and nothing else
pub record HoldsEachOnce {X : Type 0} (these list : List X) : Type 0 where
  pub once : AreApart list
  pub all : All (Contains list) these
  pub only : All (Contains these) list
