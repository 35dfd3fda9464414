use Rattle.std.proofs.Common.{rules, List, subst}
use Rattle.std.specs.Borrow.{Bor}
use Rattle.std.specs.Ordering.{is_lt}
use Rattle.std.proofs.lemmas.Fn.{always_returns_same}
use Rattle.std.proofs.lemmas.List.Sorted.{ranks_by}
use Rattle.round_trip.specs.Words.{Entity}
use Rattle.entity_state.specs.InOrder.{IsInOrderOf, entity_cmp, lent}
use Rattle.entity_state.proofs.Lent.{entity_cmp_total, in_order}
use Rattle.entity_state.proofs.key_order.entities_in_order.Goals as goal

pub returns : goal.returns
returns c =
    let cmp = entity_cmp c.args.model.now in
    let total = entity_cmp_total c.args.model.now in
    let sorted = c.sort_by.new.self.items in
    let P : List Entity → Type 0 = λ entities. IsInOrderOf cmp entities (lent sorted) in
    subst P c.in_ok-sorted.ensures (in_order cmp c.in_ok-sorted.sorted.items sorted c.sort_by.ensures.permutation
    (c.in_ok-sort_by.ensures.sorted (λ one two. is_lt (cmp one.now two.now)) (ranks_by total (λ (entity : Bor Entity). entity.now)) (always_returns_same _ _ _ (λ a r f k. search rules)))
    (c.sort_by.ensures.stable (λ one two. is_lt (cmp one.now two.now)) (ranks_by total (λ (entity : Bor Entity). entity.now)) (always_returns_same _ _ _ (λ a r f k. search rules))))
