-- Components of places, by numbers: which places lead to one another, and which arrows lead from a component to itself.
-- Source: the usual words for directed graphs (strongly connected components).
use Rattle.std.specs.Prelude.{◌≡◌, ◌⊎◌, ℕ, ◌<◌, ◌≤◌, List, slice_get, Option, Some, None}
use Rattle.std.specs.Option.{option_and_then}
use Rattle.emc_base.specs.Lists.{At}
use Rattle.graphs.specs.arrow_cycles.Arrows.{Leads}
use Rattle.graphs.specs.declared.arrow_cycles.arrow.Arrow.{Arrow}
use Rattle.graphs.specs.declared.arrow_cycles.search.Mark.{Mark}
use Rattle.graphs.specs.declared.arrow_cycles.search.Mark.TheVariants.{New, OnPath, Closed}

-- two places are the same, or arrows lead from the one to the other
abbrev pub Reaches : (ℕ → ℕ → Type 0) → ℕ → ℕ → Type 0
Reaches Is from to = (from ≡ to) ⊎ Leads Is from to

-- places of one number lead to one another, and no arrow leads to a greater number
pub record AreComponents (Is : ℕ → ℕ → Type 0) (count : ℕ) (marks : List Mark) : Type 0 where
  pub each : (v : ℕ) → v < count → (n : ℕ) × At marks v (Closed n)
  pub lower : (v n to : ℕ) → At marks v (Closed n) → Is v to → (m : ℕ) × At marks to (Closed m) × (m ≤ n)
  pub joined : (v w n : ℕ) → At marks v (Closed n) → At marks w (Closed n) → Reaches Is v w

-- the number of a component, if a mark tells one
abbrev pub number_in : Mark → Option ℕ
number_in New = None
number_in (OnPath _) = None
number_in (Closed n) = Some n

-- the number of a place's component
abbrev pub number_at : List Mark → ℕ → Option ℕ
number_at marks v = option_and_then number_in (slice_get marks v)

-- there is an arrow, and its two ends have one number
abbrev pub IsInside : List Mark → Option Arrow → Type 0
IsInside marks None = ⊥
IsInside marks (Some arrow) = number_at marks arrow.from ≡ number_at marks arrow.to

-- so it is at a place of the list
abbrev pub IsInsideAt : List Mark → List (Option Arrow) → ℕ → Type 0
IsInsideAt marks arrows k = (arrow : Option Arrow) × At arrows k arrow × IsInside marks arrow
