use Rattle.std.proofs.Common.{[], ◌∷◌, map, refl, ap, ◌∙◌}
use Rattle.std.proofs.lemmas.List.{map-append, take_all}
use Rattle.std.proofs.lemmas.Option.{slice_get_read}
use Rattle.emc_base.proofs.Turns.{mapped_more}
use Rattle.json_form.specs.Trees.{array_of}
use Rattle.serde_json.specs.View.{view}
use Rattle.texts.specs.change_texts.Texts.{row_change_tree}
use Rattle.texts.proofs.change_texts.changed_rows.row_changes_tree.Goals as goal

pub loop-change-preserved : goal.loop-change-preserved
loop-change-preserved c =
    let i = c.loop-change.change-index in
    let tree = c.in_ok-row_change_tree.field-0 in
    ap (map view) c.in_ok-push.ensures.items ∙ map-append view c.loop-change.trees.items (tree ∷ [])
    ∙ mapped_more (row_change_tree c.args.store.now) c.args.changes.now i c.change-item.result (map view c.loop-change.trees.items) (view tree) c.loop-change.invariant
    (slice_get_read _ _ i _ refl c.loop-change-test.true c.change-item.is) c.in_ok-row_change_tree.ensures

pub returns : goal.returns
returns c = c.array_tree.ensures ∙ ap array_of (c.loop-change.invariant
    ∙ ap (map (row_change_tree c.args.store.now)) (take_all c.loop-change.change-index c.args.changes.now c.loop-change-test.false))
