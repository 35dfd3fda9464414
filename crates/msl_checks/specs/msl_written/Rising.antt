-- Pairs whose properties and columns rise.
-- Source: MSL version 3, ScalarProperty.
use Rattle.std.specs.Prelude.{ℕ, ◌+◌, ◌<◌, List, Option, Some}
use Rattle.emc_base.specs.Lists.{At}
use Rattle.round_trip.specs.Words.{Pair}

-- both are found, and the second has the later property and the later column
abbrev pub Rises : Option Pair → Option Pair → Type 0
Rises (Some one) (Some other) = (one.prop.index < other.prop.index) × (one.col.index < other.col.index)
Rises _ _ = ⊥

-- so it is with each and the one behind it
abbrev pub IsRising : List (Option Pair) → Type 0
IsRising each = (place : ℕ) (one other : Option Pair) → At each place one → At each (place + 1) other → Rises one other
