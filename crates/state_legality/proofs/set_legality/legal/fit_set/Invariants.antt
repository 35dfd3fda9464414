use Rattle.entity_state.proofs.breach_order.Turns.{EachTo}
use Rattle.state_legality.specs.set_legality.Tells.{FitsSet}
use Rattle.state_legality.proofs.set_legality.legal.fit_set.Given as goal

-- the entities that were passed keep S1 to S3
abbrev pub invariant-loop-entity : goal.invariant-loop-entity
invariant-loop-entity l = EachTo (λ _ entity. FitsSet l.model l.set entity) l.entities l.entity-index
