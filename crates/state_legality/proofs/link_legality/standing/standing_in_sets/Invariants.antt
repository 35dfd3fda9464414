use Rattle.std.proofs.Common.{◌≡◌, length}
use Rattle.state_legality.specs.link_legality.Standing.{AreInOrder}
use Rattle.state_legality.proofs.link_legality.standing.standing_in_sets.Given as goal

-- the keys of the sets that were passed are in order
abbrev pub invariant-loop-of_set : goal.invariant-loop-of_set
invariant-loop-of_set l = (length l.standing.items ≡ l.of_set-index) × AreInOrder l.keys l.standing.items
