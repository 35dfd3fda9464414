-- Classes that are joined, one link after another: the number of each place, and the places of each number.
use Rattle.std.specs.Prelude.{◌≡◌, ◌≢◌, ◌⊎◌, ℕ, ◌<◌, List, [], ◌∷◌, length, Contains}
use Rattle.emc_base.specs.Lists.{At}
use Rattle.groupings.specs.declared.linked_places.joining.Joining.{Joining}

-- two places have one number
abbrev pub AreTogether : List ℕ → ℕ → ℕ → Type 0
AreTogether numbers one other = (number : ℕ) × At numbers one number × At numbers other number

-- the place is listed at the number
abbrev pub IsListed : List (List ℕ) → ℕ → ℕ → Type 0
IsListed members number place = (places : List ℕ) × At members number places × Contains places place

-- at each number exactly the places are listed that have it
pub record AreListed (numbers : List ℕ) (members : List (List ℕ)) : Type 0 where
  pub each : (place number : ℕ) → At numbers place number → IsListed members number place
  pub only : (place number : ℕ) → IsListed members number place → At numbers place number

-- classes with the places of each
abbrev pub IsJoining : Joining → Type 0
IsJoining joining = AreListed joining.numbers.items joining.members.items

-- each of so many places is in a class of its own
pub record IsAlone (count : ℕ) (joining : Joining) : Type 0 where
  pub size : length joining.numbers.items ≡ count
  pub lists : length joining.members.items ≡ count
  pub own : (place : ℕ) → place < count → At joining.numbers.items place place
  pub alone : (place : ℕ) → place < count → At joining.members.items place (place ∷ [])

-- the classes of two places, if both are places, have become one, and nothing else has changed
pub record Joins (one other : ℕ) (before after : List ℕ) : Type 0 where
  pub size : length after ≡ length before
  pub kept : (a b : ℕ) → AreTogether before a b → AreTogether after a b
  pub joined : one < length before → other < length before → AreTogether after one other
  pub only : (a b : ℕ) → AreTogether after a b → AreTogether before a b
      ⊎ ((AreTogether before a one × AreTogether before other b) ⊎ (AreTogether before a other × AreTogether before one b))

-- the places of the one number have the other, and each other place keeps its own
pub record Moves (from to : ℕ) (before after : List ℕ) : Type 0 where
  pub size : length after ≡ length before
  pub moved : (place : ℕ) → At before place from → At after place to
  pub kept : (place number : ℕ) → At before place number → number ≢ from → At after place number

-- these places have the number, and each other place keeps its own
pub record AreNumbered (number : ℕ) (places before after : List ℕ) : Type 0 where
  pub size : length after ≡ length before
  pub each : (place : ℕ) → Contains places place → At after place number
  pub kept : (place own : ℕ) → At before place own → ¬ Contains places place → At after place own
