use Rattle.std.proofs.Common.{◌≡◌, map}
use Rattle.state_legality.proofs.link_legality.in_order.split.Given as goal

-- the keys of the pairs that were passed
abbrev pub invariant-loop-first : goal.invariant-loop-first
invariant-loop-first l = (l.firsts.items ≡ map (λ pair. pair.0) l.yielded) × (l.seconds.items ≡ map (λ pair. pair.1) l.yielded)
