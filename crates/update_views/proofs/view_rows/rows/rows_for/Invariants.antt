use Rattle.std.proofs.Common.{◌≡◌, map, take}
use Rattle.update_views.specs.view_rows.Made.{row_of}
use Rattle.update_views.proofs.view_rows.rows.rows_for.Given as goal

-- the rows so far
abbrev pub invariant-loop-row : goal.invariant-loop-row
invariant-loop-row l = l.made ≡ map (row_of l.model l.ty) (take l.row-index l.rows)
