use Rattle.arrow_orders.specs.Walks.{IsLater, left_of}
use Rattle.arrow_orders.proofs.walk.Walk.finish.Given as goal

-- the walk goes on
abbrev pub invariant-loop-top : goal.invariant-loop-top
invariant-loop-top l = IsLater l.ends l.fn.self l.self

-- how many steps are left
abbrev pub decreases-loop-top : goal.decreases-loop-top
decreases-loop-top l = left_of l.ends l.self
