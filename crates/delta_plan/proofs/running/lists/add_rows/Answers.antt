use Rattle.std.proofs.Common.{◌∷◌, ◌++◌, [], Option, None, Some, append-nil, refl, sym, ap, ◌∙◌}
use Rattle.std.specs.BTreeMap.{get}
use Rattle.std.proofs.lemmas.Option.{slice_get_read}
use Rattle.emc_base.specs.Lists.{At}
use Rattle.round_trip.specs.Words.{Row}
use Rattle.entity_changes.specs.Spots.{Spot, spot_cmp}
use Rattle.entity_changes.specs.making.Fates.{survivor}
use Rattle.entity_changes.proofs.Kept.{found_behind}
use Rattle.delta_plan.specs.Running.{row_spot}
use Rattle.delta_plan.proofs.running.lists.add_rows.Goals as goal
use Rattle.delta_plan.proofs.running.lists.add_rows.Goals.{in-Some+in_ok-copied_row+in_ok-push, in_default}

pub loop-row-preserved : goal.loop-row-preserved
loop-row-preserved c =
    let all = c.args.rows.now in
    let i = c.loop-row.row-index in
    let item : Row = c.row-item.result in
    let made = c.loop-row.items in
    let fates = c.args.fates.now.by_spot in
    let becomes : Row → Option Row = λ x. survivor (get spot_cmp fates (row_spot c.args.store.now c.args.table x)) x in
    let here : At all i item = slice_get_read all _ i item refl c.loop-row-test.true c.row-item.is in
    elim c.match-survivor.branch [
      | in-Some+in_ok-copied_row+in_ok-push w ↦
          w.items-is ∙ w.in_ok-push.ensures.ok ∙ ap (λ copy. made ++ copy ∷ []) w.in_ok-copied_row.ensures
          ∙ found_behind becomes all i item c.args.items.now made (Some w.in-Some.kept.now) c.loop-row.invariant here
          (w.in-Some.ensures ∙ ap (λ (p : Spot). survivor (get spot_cmp fates p) item) c.in_ok-spot.ensures)
      | in_default w ↦
          w.items-is ∙ sym (append-nil made)
          ∙ found_behind becomes all i item c.args.items.now made None c.loop-row.invariant here
          (w.in_default.ensures ∙ ap (λ (p : Spot). survivor (get spot_cmp fates p) item) c.in_ok-spot.ensures)
    ]
