use Rattle.arrow_orders.proofs.walking.Lines.{IsUpTo}
use Rattle.arrow_orders.proofs.order.order_of.Given as goal

-- the places so far are seen, and the path is empty
abbrev pub invariant-loop-place : goal.invariant-loop-place
invariant-loop-place l = IsUpTo l.ends l.place l.walk
