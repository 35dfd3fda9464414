use Rattle.std.proofs.Common.{refl}
use Rattle.cells.specs.Cells.{is_free_in}
use Rattle.table_files.specs.InOrder.{lent_rows}
use Rattle.keyed_rows.proofs.row_differences.SideBySide.{alike_more}
use Rattle.keyed_rows.proofs.row_differences.alike.are_alike.Goals as goal

pub loop-i-preserved : goal.loop-i-preserved
loop-i-preserved c = alike_more (is_free_in c.args.cells.now c.args.id) c.args.table.now (lent_rows c.args.held.now) (lent_rows c.args.demanded.now) c.loop-i.i
    c.row.result.now c.row-in-loop-i.result.now c.row.ensures c.row-in-loop-i.ensures (c.if-not-is_alike.ensures.0 refl) c.loop-i.invariant
