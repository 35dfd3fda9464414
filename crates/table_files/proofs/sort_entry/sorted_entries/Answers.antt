use Rattle.std.proofs.Common.{rules, List, map, subst}
use Rattle.std.specs.Ordering.{is_lt}
use Rattle.std.proofs.lemmas.Fn.{always_returns_same}
use Rattle.std.proofs.lemmas.List.Sorted.{All-permutation, ranks_by}
use Rattle.round_trip.specs.Words.{Row}
use Rattle.table_files.specs.Entries.{HasFirstCells, entry_cmp}
use Rattle.table_files.specs.InOrder.{IsInOrderOf}
use Rattle.table_files.proofs.Entries.{entries_in_order, entry_cmp_total, row_in}
use Rattle.table_files.proofs.sort_entry.sorted_entries.Goals as goal

pub returns-clause-order : goal.returns-clause-order
returns-clause-order c =
    let cols = c.args.cols.now in
    let sorted = c.sort_by.new.self.items in
    let order = entries_in_order cols c.in_ok-sorted.sorted.items sorted c.in_ok-sorted.ensures.firsts c.sort_by.ensures.permutation
    (c.in_ok-sort_by.ensures.sorted (λ one other. is_lt (entry_cmp cols one other)) (ranks_by (entry_cmp_total cols) (λ entry. entry)) (always_returns_same _ _ _ (λ a r f k. search rules)))
    (c.sort_by.ensures.stable (λ one other. is_lt (entry_cmp cols one other)) (ranks_by (entry_cmp_total cols) (λ entry. entry)) (always_returns_same _ _ _ (λ a r f k. search rules))) in
    let P : List Row → Type 0 = λ rows. IsInOrderOf cols rows (map row_in sorted) in
    subst P c.in_ok-sorted.ensures.same order

pub returns-clause-firsts : goal.returns-clause-firsts
returns-clause-firsts c = All-permutation (HasFirstCells c.args.cols.now) c.in_ok-sorted.sorted.items c.sort_by.new.self.items c.sort_by.ensures.permutation c.in_ok-sorted.ensures.firsts
