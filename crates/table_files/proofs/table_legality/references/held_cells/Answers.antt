use Rattle.std.proofs.Common.{refl, rules}
use Rattle.std.proofs.lemmas.Option.{slice_get_read}
use Rattle.table_files.proofs.table_legality.Held.{held_all, held_more, held_none}
use Rattle.table_files.proofs.table_legality.references.held_cells.Goals as goal

pub loop-row-init : goal.loop-row-init
loop-row-init c = held_none c.args.rows.now c.args.cols.now _ (search rules)

pub loop-row-preserved : goal.loop-row-preserved
loop-row-preserved c =
    let n = c.loop-row.row-index in
    held_more c.args.rows.now c.args.cols.now c.loop-row.held c.insert.new.self n c.row-item.result c.in_ok-cells.cells
    (slice_get_read _ _ n _ refl c.loop-row-test.true c.row-item.is) c.loop-row.invariant c.in_ok-cells.ensures c.in_ok-insert.ensures.updates

pub returns : goal.returns
returns c = held_all c.args.rows.now c.args.cols.now c.loop-row.held c.loop-row.row-index c.loop-row-test.false c.loop-row.invariant
