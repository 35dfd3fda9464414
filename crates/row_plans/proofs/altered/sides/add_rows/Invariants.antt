use Rattle.std.proofs.Common.{◌≡◌, ◌++◌, map, take}
use Rattle.row_plans.specs.Sides.{keyed_row, shown_sided}
use Rattle.row_plans.proofs.altered.sides.add_rows.Given as goal

-- the rows so far are added
abbrev pub invariant-loop-row : goal.invariant-loop-row
invariant-loop-row l = map shown_sided l.keyed.items ≡ map shown_sided l.initial.keyed.items ++ map (keyed_row l.side l.cols) (take l.row-index l.rows)
