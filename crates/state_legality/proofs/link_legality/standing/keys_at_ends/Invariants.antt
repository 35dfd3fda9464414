use Rattle.std.proofs.Common.{◌≡◌, length}
use Rattle.state_legality.specs.link_legality.Standing.{AreKeyed}
use Rattle.state_legality.proofs.link_legality.standing.keys_at_ends.Given as goal

-- the keys of the sets that were passed
abbrev pub invariant-loop-place : goal.invariant-loop-place
invariant-loop-place l = (length l.keys.items ≡ l.place) × AreKeyed l.model l.entities l.keys.items
