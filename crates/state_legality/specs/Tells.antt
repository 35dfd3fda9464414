-- What is told of an entity state.
-- Source: the rules of `Legal` in `round_trip`.
use Rattle.std.specs.Prelude.{Option, Some, None}
use Rattle.round_trip.specs.Words.{Breach, EntityModel, State, IsBreachOf, IsLegal}
use Rattle.round_trip.specs.legality.Breaches.{BreaksRule}
use Rattle.entity_state.specs.declared.breach_order.found.Found.{Found}

-- that it is legal, or the first breach
abbrev pub TellsState : EntityModel → State → Option Breach → Type 0
TellsState model state None = IsLegal model state
TellsState model state (Some breach) = IsBreachOf model state breach

-- what was found is a breach of the state
abbrev pub BreaksState : EntityModel → State → Found → Type 0
BreaksState model state found = BreaksRule model state found.rule found.spot found.place
