-- The least list that holds some items and is closed under a step.
use Rattle.std.specs.Prelude.{ℕ, zero, suc, List, ◌++◌, Bool, filter, flat_map, not}
use Rattle.std.specs.List.{list_any}
use Rattle.schema_laws.specs.state_demand.MadeTables.{distinct}

module _ {X : Type 0} (same : X → X → Bool) (step : X → List X) where
  -- what a step from these finds beside them, each once
  abbrev pub found_from : List X → List X
  found_from items = filter (λ item. not (list_any (same item) items)) (distinct same (flat_map step items))

  -- these, and what so many steps find beside them
  abbrev pub grown : ℕ → List X → List X
  grown zero items = items
  grown (suc more) items = grown more (items ++ found_from items)
