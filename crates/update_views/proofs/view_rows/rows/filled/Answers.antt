use Rattle.std.proofs.Common.{◌≡◌, ◌++◌, ◌∷◌, [], map, refl, ap, ◌∙◌}
use Rattle.std.proofs.lemmas.List.{take_all}
use Rattle.std.proofs.lemmas.Option.{slice_get_read}
use Rattle.table_files.specs.declared.tables.TableRow.{TableRow}
use Rattle.update_views.specs.view_rows.Held.{held_by_entity, row_by_entity}
use Rattle.update_views.proofs.Added.{next_image}
use Rattle.update_views.proofs.view_rows.rows.filled.Goals as goal

pub loop-row-preserved : goal.loop-row-preserved
loop-row-preserved c =
    let i = c.loop-row.row-index in
    let row = c.row-item.result in
    let made : TableRow = record { table = row.table; row = record { cells = c.in_ok-cells.cells } } in
    let is : made ≡ row_by_entity c.args.entity.now c.args.links.now row = λ k. record { table = row.table; row = record { cells = (c.in_ok-cells.ensures ∙ ap (map (held_by_entity c.args.entity.now c.args.links.now)) c.as_slice.ensures.items) k } } in
    c.in_ok-push.ensures.items
    ∙ (λ k. c.loop-row.invariant k ++ is k ∷ [])
    ∙ next_image (row_by_entity c.args.entity.now c.args.links.now) c.args.rows.now i row (slice_get_read _ _ i _ refl c.loop-row-test.true c.row-item.is)

pub returns : goal.returns
returns c = c.loop-row.invariant ∙ ap (map (row_by_entity c.args.entity.now c.args.links.now)) (take_all c.loop-row.row-index c.args.rows.now c.loop-row-test.false)
