use Rattle.entity_state.proofs.breach_order.Apart.{ApartTo}
use Rattle.round_trip.specs.Words.{Link}
use Rattle.state_legality.proofs.link_legality.legal.are_apart.Given as goal

-- of the links that were passed none equals one before it
abbrev pub invariant-loop-i : goal.invariant-loop-i
invariant-loop-i l = ApartTo (λ (link : Link). link) l.links l.i
