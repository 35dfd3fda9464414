use Rattle.std.proofs.Common.{All, take}
use Rattle.state_legality.specs.link_legality.Ends.{IsMarked}
use Rattle.state_legality.specs.link_legality.InOrder.{StandsWith}
use Rattle.state_legality.proofs.link_legality.in_order.are_held.Given as goal

-- the keys that were passed stand there
abbrev pub invariant-loop-key : goal.invariant-loop-key
invariant-loop-key l = All (StandsWith (IsMarked l.under) l.standing) (take l.key-index l.linked)
