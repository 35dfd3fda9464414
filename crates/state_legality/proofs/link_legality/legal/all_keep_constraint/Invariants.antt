use Rattle.entity_state.proofs.breach_order.Turns.{EachTo}
use Rattle.state_legality.specs.link_legality.Principals.{KeepsConstraint}
use Rattle.state_legality.proofs.link_legality.legal.all_keep_constraint.Given as goal

-- the entities that were passed have their principals
abbrev pub invariant-loop-entity : goal.invariant-loop-entity
invariant-loop-entity l = EachTo (λ _ entity. KeepsConstraint l.model l.principals l.u l.constraint entity) l.dependents l.entity-index
