use Rattle.std.proofs.Common.{◌≡◌, ◌++◌, map, take}
use Rattle.table_files.specs.InOrder.{lent_rows}
use Rattle.keyed_rows.specs.row_differences.Sides.{keyed_row, shown_sided}
use Rattle.keyed_rows.proofs.row_differences.sides.add_rows.Given as goal

-- the rows so far are added
abbrev pub invariant-loop-i : goal.invariant-loop-i
invariant-loop-i l = map shown_sided l.keyed.items ≡ map shown_sided l.initial.keyed.items ++ map (keyed_row l.side l.cols) (take l.i (lent_rows l.rows))
