use Rattle.std.proofs.Common.{◌≡◌, ◌++◌, map, take}
use Rattle.table_files.specs.InOrder.{lent_rows}
use Rattle.keyed_rows.specs.set_rows.Keyed.{keyed_row, shown_keyed_rows}
use Rattle.keyed_rows.proofs.set_rows.by_key.add_rows.Given as goal

-- the rows that were passed are added
abbrev pub invariant-loop-i : goal.invariant-loop-i
invariant-loop-i l = shown_keyed_rows l.keyed.items ≡ shown_keyed_rows l.fn.keyed.items ++ map (keyed_row l.table l.order) (take l.i (lent_rows l.rows))
