use Rattle.std.proofs.Common.{List, Vec, Global, subst}
use Rattle.std.specs.Borrow.{Bor}
use Rattle.round_trip.specs.Words.{Link}
use Rattle.entity_state.specs.InOrder.{IsInOrderOf, lent, link_cmp}
use Rattle.entity_state.proofs.Listed.{one_more_in_order}
use Rattle.entity_state.proofs.key_order.sorted_links.Goals as goal

pub loop-list-preserved : goal.loop-list-preserved
loop-list-preserved c =
    let new = c.in_ok-links_in_order.field-0 in
    let P : List Link → Type 0 = λ list. IsInOrderOf link_cmp list (lent new.items) in
    one_more_in_order link_cmp (λ (list : Vec (Bor Link) Global). lent list.items) c.args.lists.now c.loop-list.sorted.items c.push.new.self.items c.loop-list.list-index
    c.list-item.result new c.loop-list-test.true c.list-item.is c.in_ok-push.ensures.items (subst P c.as_slice.ensures.items c.in_ok-links_in_order.ensures) c.loop-list.invariant
