-- The first place of an item whose name was given before. Only for the functions that look for it.
-- Source: MSL version 3, ScalarProperty.
use Rattle.std.specs.Prelude.{◌≡◌, ℕ, List, Option}
use Rattle.std.specs.Borrow.{Bor}
use Rattle.std.specs.Ordering.{nat_cmp}
use Rattle.emc_base.specs.Lists.{At}
use Rattle.groupings.specs.least_fault.Least.{IsLeast}
use Rattle.groupings.specs.name_places.GivenNames.{IsGivenBefore}

-- the item at this place has a name that one before it has
abbrev pub IsAgain : {T : Type 0} → (T → List ℕ) → List T → ℕ → Type 0
IsAgain {T} name_in items place = (item : T) × At items place item × IsGivenBefore name_in items place item

-- the first such place by the name that is lent of each item, whichever name of an item that is
abbrev pub IsFirstAgainBy : {T : Type 0} → (Bor T → Bor (List ℕ) → Type 0) → List T → Option ℕ → Type 0
IsFirstAgainBy {T} Lends items first =
    (name_in : T → List ℕ) → ((item : Bor T) (name : Bor (List ℕ)) → Lends item name → name.now ≡ name_in item.now) → IsLeast nat_cmp (IsAgain name_in items) first
