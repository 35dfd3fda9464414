-- Arrows in a list, each from one place to another, and which of them lie on a cycle.
-- Source: the usual words for directed graphs.
use Rattle.std.specs.Prelude.{◌≡◌, ◌⊎◌, ℕ, ◌<◌, List, MatchOption, Option, Some}
use Rattle.std.specs.Bool.{⊤}
use Rattle.emc_base.specs.Lists.{At}
use Rattle.graphs.specs.declared.arrow_cycles.arrow.Arrow.{Arrow}

-- arrows lead from one place to another, over one or more of them
pub data Leads (Is : ℕ → ℕ → Type 0) : ℕ → ℕ → Type 0 where
  arrow : (from to : ℕ) → Is from to → Leads Is from to
  further : (from next to : ℕ) → Is from next → Leads Is next to → Leads Is from to

-- the list has an arrow from the one place to the other
abbrev pub IsArrow : List (Option Arrow) → ℕ → ℕ → Type 0
IsArrow arrows from to = (k : ℕ) × At arrows k (Some (record { from = from; to = to }))

-- the place of the list has an arrow, and its end is its beginning or leads back to it
abbrev pub IsOnCycle : List (Option Arrow) → ℕ → Type 0
IsOnCycle arrows k = (from : ℕ) × (to : ℕ) × At arrows k (Some (record { from = from; to = to })) × ((from ≡ to) ⊎ Leads (IsArrow arrows) to from)

-- each arrow leads between two of so many places
pub record StayWithin (count : ℕ) (arrows : List (Option Arrow)) : Type 0 where
  pub each : (from to : ℕ) → IsArrow arrows from to → (from < count) × (to < count)

-- so it is for one arrow, if there is one
abbrev pub IsWithin : ℕ → Option Arrow → Type 0
IsWithin count there = MatchOption there ⊤ (λ one. (one.from < count) × (one.to < count))
