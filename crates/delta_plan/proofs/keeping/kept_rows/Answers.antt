use Rattle.std.proofs.Common.{◌+◌, ◌∙◌, List, subst, sym}
use Rattle.emc_base.proofs.Lists.{at_once}
use Rattle.round_trip.specs.Words.{At, Row, Table, TableId, rows_in}
use Rattle.delta_plan.specs.Keeping.{AreKeptRows, AreRowsOf, Free, HoldsKept}
use Rattle.delta_plan.proofs.grouped.Tabled.{IsKept, IsMade, all_kept, all_counted, are_rows_of, more_made, none_made}
use Rattle.delta_plan.proofs.keeping.kept_rows.Goals as goal

pub loop-index-init : goal.loop-index-init
loop-index-init c = subst (IsMade (IsKept c.args.store.now c.args.tables.now c.args.fresh.now c.args.cells.now) 0) (sym c.new-lists.ensures.items)
    (none_made (IsKept c.args.store.now c.args.tables.now c.args.fresh.now c.args.cells.now))

pub kept_in-requires : goal.kept_in-requires
kept_in-requires c =
    let t : TableId = record { index = c.loop-index.index } in
    let old = c.as_slice.ensures.items ∙ c.rows.ensures in
    let new = c.as_slice-in-loop-index.ensures.items ∙ c.rows-in-loop-index.ensures in
    let is : AreRowsOf c.at-table.result.now (rows_in c.args.tables.now t) (rows_in c.args.fresh.now t) =
    are_rows_of c.args.store.now c.args.tables.now c.args.fresh.now c.requires t c.at-table.result.now c.at-table.ensures in
    let Both : List Row × List Row → Type 0 = λ both. AreRowsOf c.at-table.result.now both.0 both.1 in
    subst Both (λ k. (sym old k, sym new k)) is

pub loop-index-preserved : goal.loop-index-preserved
loop-index-preserved c =
    let i = c.loop-index.index in
    let t : TableId = record { index = i } in
    let made = c.in_ok-rows.rows in
    let old = c.as_slice.ensures.items ∙ c.rows.ensures in
    let new = c.as_slice-in-loop-index.ensures.items ∙ c.rows-in-loop-index.ensures in
    let Made : Table × List Row × List Row → Type 0 = λ p. AreKeptRows (Free c.args.cells.now t) p.0 p.1 p.2 made in
    let is : (table : Table) → At c.args.store.now.tables i table → Made (table, rows_in c.args.tables.now t, rows_in c.args.fresh.now t) = λ table at.
    subst Made (λ k. (at_once c.args.store.now.tables i c.at-table.result.now table c.at-table.ensures at k, old k, new k)) c.in_ok-rows.ensures in
    subst (IsMade (IsKept c.args.store.now c.args.tables.now c.args.fresh.now c.args.cells.now) (i + 1)) (sym c.in_ok-push.ensures.items)
    (more_made (IsKept c.args.store.now c.args.tables.now c.args.fresh.now c.args.cells.now) i c.loop-index.lists.items made c.loop-index.invariant is)

pub returns : goal.returns
returns c =
    let count = all_counted c.loop-index.index c.len-index-end.result _ c.len-index-end.ensures.count c.loop-index.auto.index-end c.loop-index-test.false in
    subst (HoldsKept c.args.store.now c.args.cells.now c.args.tables.now c.args.fresh.now) (sym c.of_lists.ensures)
    (all_kept c.args.store.now c.args.tables.now c.args.fresh.now c.args.cells.now c.loop-index.index c.loop-index.lists.items count c.loop-index.invariant)
