use Rattle.std.proofs.Common.{◌≡◌}
use Rattle.state_legality.specs.link_legality.Sides.{key_at}
use Rattle.state_legality.proofs.link_legality.Counting.{SeveralTo}
use Rattle.state_legality.proofs.link_legality.Holding.{HoldsTo}
use Rattle.state_legality.proofs.link_legality.counts.partners_in.Given as goal

-- the sets have the keys that some of the links that were passed have, and those that several of them have
abbrev pub invariant-loop-link : goal.invariant-loop-link
invariant-loop-link l = HoldsTo (λ link key. key_at link l.side ≡ key) l.links l.some l.link-index × SeveralTo (λ link. key_at link l.side) l.links l.several l.link-index
