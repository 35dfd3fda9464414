use Rattle.std.proofs.Common.{map, take}
use Rattle.std.specs.List.{AllZip}
use Rattle.entity_state.specs.InOrder.{IsInOrderOf, lent, link_cmp}
use Rattle.entity_state.proofs.key_order.sorted_links.Given as goal

-- the lists that were passed are in order
abbrev pub invariant-loop-list : goal.invariant-loop-list
invariant-loop-list l = AllZip (IsInOrderOf link_cmp) (take l.list-index l.lists) (map (λ list. lent list.items) l.sorted.items)
