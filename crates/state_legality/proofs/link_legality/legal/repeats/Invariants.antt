use Rattle.entity_state.proofs.breach_order.Apart.{OtherTo}
use Rattle.round_trip.specs.Words.{Link}
use Rattle.state_legality.proofs.link_legality.legal.repeats.Given as goal

-- those that were passed are other links
abbrev pub invariant-loop-k : goal.invariant-loop-k
invariant-loop-k l = OtherTo (λ (link : Link). link) l.links l.i l.k
