use Rattle.entity_state.proofs.breach_order.Turns.{EachTo}
use Rattle.state_legality.specs.link_legality.Tells.{KeepsAssoc, state_of}
use Rattle.state_legality.proofs.link_legality.legal.are_legal_links.Given as goal

-- the associations that were passed keep the rules
abbrev pub invariant-loop-i : goal.invariant-loop-i
invariant-loop-i l = EachTo (λ i assoc. KeepsAssoc l.model (state_of l.entities l.links) (record { index = i }) assoc) l.assocs l.i
