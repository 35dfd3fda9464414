-- Items that put something in places of a list, one after another.
use Rattle.std.specs.Prelude.{◌≡◌, ◌≢◌, ◌⊎◌, ℕ, ◌<◌, List, length}
use Rattle.emc_base.specs.Lists.{At}

module _ {X V : Type 0} (place : X → ℕ) (IsBy : ℕ → X → V → Type 0) (items : List X) where
  -- one of the first so many items has this place, and puts this there
  abbrev pub IsPut : ℕ → ℕ → V → Type 0
  IsPut n k value = (i : ℕ) × (item : X) × (i < n) × At items i item × (place item ≡ k) × IsBy i item value

  -- none of them has the place
  abbrev pub IsSpared : ℕ → ℕ → Type 0
  IsSpared n k = (i : ℕ) (item : X) → i < n → At items i item → place item ≢ k

  -- what stands at a place is put there by one of the first so many items, or stood there before and none has the place
  pub record Puts (n : ℕ) (before after : List V) : Type 0 where
    pub size : length after ≡ length before
    pub each : (k : ℕ) (value : V) → At after k value → IsPut n k value ⊎ (At before k value × IsSpared n k)
