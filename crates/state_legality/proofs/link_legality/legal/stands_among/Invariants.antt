use Rattle.std.proofs.Common.{◌≡◌}
use Rattle.entity_state.proofs.breach_order.Turns.{EachTo}
use Rattle.round_trip.specs.Words.{IsA, key_of}
use Rattle.state_legality.proofs.link_legality.legal.stands_among.Given as goal

-- the entities that were passed aren't it
abbrev pub invariant-loop-entity : goal.invariant-loop-entity
invariant-loop-entity l = EachTo (λ _ entity. ¬ (IsA l.model entity.ty l.u × (key_of l.model entity ≡ l.key))) l.entities l.entity-index
