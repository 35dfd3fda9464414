use Rattle.std.proofs.Common.{◌≡◌}
use Rattle.round_trip.specs.Words.{key_of}
use Rattle.state_legality.specs.link_legality.Sides.{key_at}
use Rattle.state_legality.proofs.link_legality.Legality.{NoneFrom}
use Rattle.state_legality.proofs.link_legality.legal.next_partner.Given as goal

-- no link that was passed has the key
abbrev pub invariant-loop-i : goal.invariant-loop-i
invariant-loop-i l = NoneFrom (λ link. key_at link l.side ≡ key_of l.model l.entity) l.links l.from l.i
