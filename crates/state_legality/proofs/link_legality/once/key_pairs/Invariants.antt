use Rattle.std.proofs.Common.{◌≡◌, map, take}
use Rattle.state_legality.specs.link_legality.Once.{link_of}
use Rattle.state_legality.proofs.link_legality.once.key_pairs.Given as goal

-- the keys of the links that were passed
abbrev pub invariant-loop-link : goal.invariant-loop-link
invariant-loop-link l = map link_of l.pairs.items ≡ take l.link-index l.links
