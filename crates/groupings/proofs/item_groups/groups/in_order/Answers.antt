use Rattle.std.proofs.Common.{rules}
use Rattle.std.proofs.lemmas.Fn.{always_returns_same}
use Rattle.std.proofs.lemmas.List.Sorted.{length_permutation, ranks_by}
use Rattle.groupings.proofs.item_groups.Sorted.{before, stable_items}
use Rattle.groupings.proofs.item_groups.groups.in_order.Goals as goal

pub returns-clause-rising : goal.returns-clause-rising
returns-clause-rising g c =
    let total = g.met.K.Ord.total in
    c.in_ok-sort_by.ensures.sorted (before g.K.Ord.cmp total) (ranks_by total (λ one. one.0)) (always_returns_same _ _ _ (λ a r f k. search rules))

pub returns-clause-items : goal.returns-clause-items
returns-clause-items g c =
    let cmp = g.K.Ord.cmp in
    stable_items cmp g.met.K.Ord.total c.args.keyed.items c.sort_by.new.self.items (length_permutation _ _ c.sort_by.ensures.permutation)
    (c.sort_by.ensures.stable (before cmp g.met.K.Ord.total) (ranks_by g.met.K.Ord.total (λ one. one.0)) (always_returns_same _ _ _ (λ a r f k. search rules)))
