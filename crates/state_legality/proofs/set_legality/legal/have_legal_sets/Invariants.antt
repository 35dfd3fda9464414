use Rattle.round_trip.specs.Words.{IsLegalSet}
use Rattle.entity_state.proofs.breach_order.Turns.{EachTo}
use Rattle.state_legality.specs.set_legality.Tells.{entities_numbered}
use Rattle.state_legality.proofs.set_legality.legal.have_legal_sets.Given as goal

-- the sets that were passed are legal
abbrev pub invariant-loop-s : goal.invariant-loop-s
invariant-loop-s l = EachTo (λ s set. IsLegalSet l.model set (entities_numbered l.entities s)) l.sets l.s
