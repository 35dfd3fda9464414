-- Places that wait for others, an order in which they come, and a ring of which none can come.
-- Source: the topological order and the cycles of a directed graph.
use Rattle.std.specs.Prelude.{◌≡◌, ◌<◌, ◌≤◌, ℕ, suc, List, length, Contains}
use Rattle.emc_base.specs.Lists.{AreApart, At}
use Rattle.arrow_orders.specs.declared.order.Order.{Order}
use Rattle.arrow_orders.specs.declared.order.Order.TheVariants.{Line, Ring}

-- the first place waits for the second: this stands among those that are listed for it
abbrev pub Waits : List (List ℕ) → ℕ → ℕ → Type 0
Waits ends one other = (listed : List ℕ) × At ends one listed × Contains listed other

-- each of those is a place
abbrev pub EndWithin : List (List ℕ) → Type 0
EndWithin ends = (one other : ℕ) → Waits ends one other → other < length ends

-- each place once, behind all that it waits for
pub record IsLine (ends : List (List ℕ)) (places : List ℕ) : Type 0 where
  pub once : AreApart places
  pub all : (v : ℕ) → v < length ends → Contains places v
  pub only : (v : ℕ) → Contains places v → v < length ends
  pub behind : (i v w : ℕ) → At places i v → Waits ends v w → (j : ℕ) × At places j w × (j < i)

-- some places, each once, each of which waits for the next, and the last for the first
pub record IsRing (ends : List (List ℕ)) (places : List ℕ) : Type 0 where
  pub some : 1 ≤ length places
  pub once : AreApart places
  pub next : (i v w : ℕ) → At places i v → At places (suc i) w → Waits ends v w
  pub closes : (first last i : ℕ) → At places 0 first → At places i last → length places ≡ suc i → Waits ends last first

abbrev pub TellsOrder : List (List ℕ) → Order → Type 0
TellsOrder ends (Line places) = IsLine ends places.items
TellsOrder ends (Ring places) = IsRing ends places.items
