use Rattle.std.proofs.Common.{◌++◌, ◌∷◌, [], map, refl, ap, ◌∙◌}
use Rattle.std.proofs.lemmas.List.{take_all}
use Rattle.std.proofs.lemmas.Option.{slice_get_read}
use Rattle.update_views.specs.view_rows.Made.{row_of}
use Rattle.update_views.proofs.Added.{next_image}
use Rattle.update_views.proofs.view_rows.rows.rows_for.Goals as goal

pub loop-row-preserved : goal.loop-row-preserved
loop-row-preserved c =
    let i = c.loop-row.row-index in
    c.in_ok-push.ensures.ok
    ∙ (λ k. c.loop-row.invariant k ++ c.in_ok-row_of.ensures k ∷ [])
    ∙ next_image (row_of c.args.model.now c.args.ty) c.args.rows.now i c.row-item.result (slice_get_read _ _ i _ refl c.loop-row-test.true c.row-item.is)

pub returns : goal.returns
returns c = c.loop-row.invariant ∙ ap (map (row_of c.args.model.now c.args.ty)) (take_all c.loop-row.row-index c.args.rows.now c.loop-row-test.false)
