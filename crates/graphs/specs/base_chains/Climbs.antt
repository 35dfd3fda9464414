-- A way up from a type: over its base, the base of that, and so on, until there is none or one that was seen before.
use Rattle.std.specs.Prelude.{◌≡◌, ◌≢◌, ◌⊎◌, ◌==◌, ℕ, Bool, true, List, [], ◌∷◌, length, drop, position, All, AllPairs, Contains, Option, Some}
use Rattle.std.specs.Option.{option_and_then, option_map_or}
use Rattle.emc_base.specs.Lists.{At}

-- a place is marked as seen
abbrev pub IsSeen : List Bool → ℕ → Type 0
IsSeen seen i = At seen i true

-- from the start, each place of the path is the base of the one before, and the exit is the base of the last
abbrev pub IsPath : (ℕ → Option ℕ) → Option ℕ → List ℕ → Option ℕ → Type 0
IsPath base start [] exit = start ≡ exit
IsPath base start (place ∷ path) exit = (start ≡ Some place) × IsPath base (base place) path exit

-- the part of a path from its exit on: the cycle in which it ends
abbrev pub cycle_of : List ℕ → Option ℕ → List ℕ
cycle_of path exit = option_map_or (λ start. drop start path) (option_and_then (λ wanted. position (λ place. place == wanted) path) exit) []

-- what was climbed so far: a path over new places, which are the ones that became seen
pub record IsWayUp (base : ℕ → Option ℕ) (from : ℕ) (before after : List Bool) (path : List ℕ) (exit : Option ℕ) : Type 0 where
  pub climbed : IsPath base (Some from) path exit
  pub fresh : All (λ i. ¬ IsSeen before i) path
  pub once : AllPairs (λ i j. i ≢ j) path
  pub size : length after ≡ length before
  pub kept : (i : ℕ) → IsSeen before i → IsSeen after i
  pub marked : All (IsSeen after) path
  pub only : (i : ℕ) → IsSeen after i → IsSeen before i ⊎ Contains path i

-- a way up that ends at a root or at a place that is seen
abbrev pub IsClimb : (ℕ → Option ℕ) → ℕ → List Bool → List Bool → List ℕ → Option ℕ → Type 0
IsClimb base from before after path exit = IsWayUp base from before after path exit × ((j : ℕ) → exit ≡ Some j → IsSeen after j)
