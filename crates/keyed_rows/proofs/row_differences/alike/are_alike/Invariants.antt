use Rattle.std.proofs.Common.{take}
use Rattle.cells.specs.Cells.{is_free_in}
use Rattle.table_files.specs.InOrder.{lent_rows}
use Rattle.keyed_rows.specs.row_differences.Alike.{AreAlike}
use Rattle.keyed_rows.proofs.row_differences.alike.are_alike.Given as goal

-- the rows so far are alike
abbrev pub invariant-loop-i : goal.invariant-loop-i
invariant-loop-i l = AreAlike (is_free_in l.cells l.id) l.table (take l.i (lent_rows l.held)) (take l.i (lent_rows l.demanded))
