use Rattle.std.proofs.Common.{◌≤◌}
use Rattle.entity_state.proofs.breach_order.Rising.{RisesTo}
use Rattle.entity_state.proofs.breach_order.in_order.rise.Given as goal

-- the keys that were passed rise
abbrev pub invariant-loop-i : goal.invariant-loop-i
invariant-loop-i g l = (1 ≤ l.i) × RisesTo g.K.Ord.cmp l.keys l.i
