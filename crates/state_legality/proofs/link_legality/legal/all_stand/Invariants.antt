use Rattle.entity_state.proofs.breach_order.Turns.{EachTo}
use Rattle.state_legality.specs.link_legality.Sides.{end_at, key_at}
use Rattle.state_legality.specs.link_legality.Ends.{StandsAmong}
use Rattle.state_legality.proofs.link_legality.legal.all_stand.Given as goal

-- the links that were passed have an entity at the side
abbrev pub invariant-loop-link : goal.invariant-loop-link
invariant-loop-link l = EachTo (λ _ link. StandsAmong l.model (end_at l.assoc l.side).ty l.entities (key_at link l.side)) l.links l.link-index
