use Rattle.std.proofs.Common.{length, ap, ◌∙◌}
use Rattle.table_files.specs.declared.tables.TableRow.{TableRow}
use Rattle.update_views.proofs.Added.{row_added, size_row}
use Rattle.update_views.proofs.state_tables.add_rows.Goals as goal

pub loop-placed-preserved : goal.loop-placed-preserved
loop-placed-preserved c =
    let placed : TableRow = c.in-Some.placed in
    let before = c.loop-placed.tables in (
      ap (λ tables. length tables) c.in_ok-insert.ensures.ok ∙ size_row before placed.table placed.row ∙ c.loop-placed.invariant.0,
      row_added c.args.tables.now before c.insert.new.self c.loop-placed.yielded placed c.loop-placed.invariant.1 c.in_ok-insert.ensures.ok,
    )
