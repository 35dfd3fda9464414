use Rattle.round_trip.specs.Words.{key_of}
use Rattle.entity_state.proofs.breach_order.Apart.{ApartTo}
use Rattle.state_legality.proofs.set_legality.legal.are_apart.Given as goal

-- of the entities that were passed none has the key of one before it
abbrev pub invariant-loop-i : goal.invariant-loop-i
invariant-loop-i l = ApartTo (key_of l.model) l.entities l.i
