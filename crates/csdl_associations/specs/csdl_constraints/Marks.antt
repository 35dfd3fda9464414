-- Marks of places: which of the places in a list are told.
use Rattle.std.specs.Prelude.{◌≡◌, ◌↔◌, ◌⊎◌, ◌<◌, ℕ, List, length, Bool, true, Option, Some}
use Rattle.emc_base.specs.Lists.{At}

-- so many marks: each place below has one exactly where P holds of it
pub record AreMarksBelow (P : ℕ → Type 0) (count : ℕ) (marks : List Bool) : Type 0 where
  pub alike : length marks ≡ count
  pub each : (i : ℕ) → i < count → (At marks i true ↔ P i)

-- so many marks: a place has one exactly where P holds of it, and P holds of no other place
pub record AreMarks (P : ℕ → Type 0) (count : ℕ) (marks : List Bool) : Type 0 where
  pub alike : length marks ≡ count
  pub each : (i : ℕ) → (At marks i true ↔ P i)

-- the place, where there is one inside, has a mark besides those that were there
pub record IsMarked (before : List Bool) (place : Option ℕ) (now : List Bool) : Type 0 where
  pub alike : length now ≡ length before
  pub each : (i : ℕ) → i < length before → (At now i true ↔ (At before i true ⊎ (place ≡ Some i)))
