-- The ends of arrows, listed for each place where some begin.
use Rattle.std.specs.Prelude.{◌≡◌, ℕ, ◌<◌, List, [], ◌∷◌, ◌++◌, length, get_or, set, Contains, Option, Some, None}
use Rattle.std.specs.Bool.{⊤}
use Rattle.emc_base.specs.Lists.{At}
use Rattle.graphs.specs.arrow_cycles.Arrows.{IsArrow}
use Rattle.graphs.specs.declared.arrow_cycles.arrow.Arrow.{Arrow}

-- the second place stands among the ends that are listed for the first
abbrev pub GoesTo : List (List ℕ) → ℕ → ℕ → Type 0
GoesTo ends from to = (listed : List ℕ) × At ends from listed × Contains listed to

-- for each of so many places the ends of the arrows that begin there
pub record IsEnds (count : ℕ) (arrows : List (Option Arrow)) (ends : List (List ℕ)) : Type 0 where
  pub size : length ends ≡ count
  pub only : (from to : ℕ) → GoesTo ends from to → IsArrow arrows from to
  pub each : (from to : ℕ) → IsArrow arrows from to → GoesTo ends from to

-- an arrow begins at one of so many places, if there is one
abbrev pub IsFrom : ℕ → Option Arrow → Type 0
IsFrom count None = ⊤
IsFrom count (Some one) = one.from < count

-- ends with that of one more arrow, if there is one
abbrev pub with_arrow : List (List ℕ) → Option Arrow → List (List ℕ)
with_arrow ends None = ends
with_arrow ends (Some one) = set ends one.from (get_or ends one.from [] ++ one.to ∷ [])

-- each end is one of the places
abbrev pub EndWithin : List (List ℕ) → Type 0
EndWithin ends = (from to : ℕ) → GoesTo ends from to → to < length ends
