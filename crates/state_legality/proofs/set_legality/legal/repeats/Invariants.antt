use Rattle.round_trip.specs.Words.{key_of}
use Rattle.entity_state.proofs.breach_order.Apart.{OtherTo}
use Rattle.state_legality.proofs.set_legality.legal.repeats.Given as goal

-- those that were passed have other keys
abbrev pub invariant-loop-k : goal.invariant-loop-k
invariant-loop-k l = OtherTo (key_of l.model) l.entities l.i l.k
