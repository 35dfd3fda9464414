use Rattle.std.proofs.Common.{◌≡◌, ◌++◌, List, map, reverse, ap, ◌∙◌}
use Rattle.emc_base.proofs.Loops.{take-enumerated}
use Rattle.round_trip.specs.Words.{Row}
use Rattle.entity_changes.specs.making.Fates.{behind_at, survivors}
use Rattle.entity_changes.proofs.Kept.{numbered_more}
use Rattle.delta_plan.specs.Running.{row_spot, rows_left}
use Rattle.delta_plan.proofs.running.lists.row_lists.Goals as goal

pub loop-place-preserved : goal.loop-place-preserved
loop-place-preserved c =
    let store = c.args.store.now in
    let fates = c.args.fates.now in
    let i = c.loop-place.place in
    let list : List Row = c.index-lists-place.result in
    let kept : c.add_rows.new.items ≡ survivors fates (row_spot store (record { index = i })) list =
    c.in_ok-add_rows.ensures ∙ ap (λ (first : List Row). first ++ survivors fates
    (row_spot store (record { index = c.in_ok-narrow.field-0 })) c.as_slice.result.now) c.empty-rows.ensures
    ∙ (λ k. survivors fates (row_spot store (record { index = c.in_ok-narrow.ensures k })) (c.as_slice.ensures.items k)) in
    let rows : c.add_new_rows.new.items ≡ survivors fates (row_spot store (record { index = i })) list ++ reverse (behind_at fates i) =
    c.in_ok-add_new_rows.ensures ∙ ap (λ (first : List Row). first ++ reverse (behind_at fates i)) kept in
    c.in_ok-push.ensures.items
    ∙ numbered_more (rows_left store fates) c.args.lists.now i list c.loop-place.made.items c.add_new_rows.new.items c.loop-place.invariant
    c.loop-place-test.true c.index-lists-place.is rows

pub returns : goal.returns
returns c = c.loop-place.invariant ∙ ap (map (rows_left c.args.store.now c.args.fates.now)) (take-enumerated c.args.lists.now c.loop-place.place c.loop-place-test.false)
