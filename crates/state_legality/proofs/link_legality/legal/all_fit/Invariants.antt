use Rattle.entity_state.proofs.breach_order.Turns.{EachTo}
use Rattle.state_legality.specs.link_legality.Counts.{KeepsCount}
use Rattle.state_legality.proofs.link_legality.legal.all_fit.Given as goal

-- the entities that were passed have as many partners as they may
abbrev pub invariant-loop-entity : goal.invariant-loop-entity
invariant-loop-entity l = EachTo (λ _ entity. KeepsCount l.model l.links l.assoc l.side entity) l.entities l.entity-index
