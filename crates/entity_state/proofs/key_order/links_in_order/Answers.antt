use Rattle.std.proofs.Common.{rules, List, subst}
use Rattle.std.specs.Borrow.{Bor}
use Rattle.std.specs.Ordering.{is_lt}
use Rattle.std.proofs.lemmas.Fn.{always_returns_same}
use Rattle.std.proofs.lemmas.List.Sorted.{ranks_by}
use Rattle.round_trip.specs.Words.{Link}
use Rattle.entity_state.specs.InOrder.{IsInOrderOf, lent, link_cmp}
use Rattle.entity_state.proofs.Lent.{in_order, link_cmp_total}
use Rattle.entity_state.proofs.key_order.links_in_order.Goals as goal

pub returns : goal.returns
returns c =
    let sorted = c.sort_by.new.self.items in
    let P : List Link → Type 0 = λ links. IsInOrderOf link_cmp links (lent sorted) in
    subst P c.in_ok-sorted.ensures (in_order link_cmp c.in_ok-sorted.sorted.items sorted c.sort_by.ensures.permutation
    (c.in_ok-sort_by.ensures.sorted (λ one two. is_lt (link_cmp one.now two.now)) (ranks_by link_cmp_total (λ (link : Bor Link). link.now)) (always_returns_same _ _ _ (λ a r f k. search rules)))
    (c.sort_by.ensures.stable (λ one two. is_lt (link_cmp one.now two.now)) (ranks_by link_cmp_total (λ (link : Bor Link). link.now)) (always_returns_same _ _ _ (λ a r f k. search rules))))
