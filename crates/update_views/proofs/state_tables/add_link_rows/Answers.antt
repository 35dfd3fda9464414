use Rattle.std.proofs.Common.{◌++◌, length, ◌∷◌, [], map, take, Some, sym, ap, ◌∙◌}
use Rattle.std.proofs.lemmas.Option.{slice_get-get_or}
use Rattle.emc_base.specs.Lists.{At}
use Rattle.table_files.specs.declared.tables.TableRow.{TableRow}
use Rattle.update_views.specs.view_rows.Held.{row_by_link}
use Rattle.update_views.specs.Placed.{with_rows}
use Rattle.update_views.proofs.Added.{next_image, row_added, size_row}
use Rattle.update_views.proofs.state_tables.add_link_rows.Goals as goal

pub loop-link-preserved : goal.loop-link-preserved
loop-link-preserved c =
    let i = c.loop-link.link-index in
    let row = c.args.row.now in
    let links = c.args.links.now in
    let link = c.link-item.result in
    let placed : TableRow = c.in_ok-placed.placed in
    let before = c.loop-link.tables in
    let so_far = map (row_by_link row) (take i links) in
    let stands : At links i link = slice_get-get_or links i link c.loop-link-test.true ∙ ap Some (sym c.link-item.is) in (
      ap (λ tables. length tables) c.in_ok-insert.ensures.ok ∙ size_row before placed.table placed.row ∙ c.loop-link.invariant.0,
      row_added c.args.tables.now before c.insert.new.self so_far placed c.loop-link.invariant.1 c.in_ok-insert.ensures.ok
          ∙ ap (with_rows c.args.tables.now) (ap (λ (one : TableRow). so_far ++ one ∷ []) c.in_ok-placed.ensures ∙ next_image (row_by_link row) links i link stands),
    )
