use Rattle.std.proofs.Common.{◌≡◌, take}
use Rattle.entity_state.specs.InOrder.{lent}
use Rattle.entity_state.proofs.key_order.lent.Given as goal

-- the items that were passed are lent
abbrev pub invariant-loop-item : goal.invariant-loop-item
invariant-loop-item g l = lent l.all.items ≡ take l.item-index l.items
