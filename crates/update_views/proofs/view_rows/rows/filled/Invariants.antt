use Rattle.std.proofs.Common.{◌≡◌, map, take}
use Rattle.update_views.specs.view_rows.Held.{row_by_entity}
use Rattle.update_views.proofs.view_rows.rows.filled.Given as goal

-- the rows so far
abbrev pub invariant-loop-row : goal.invariant-loop-row
invariant-loop-row l = l.placed.items ≡ map (row_by_entity l.entity l.links) (take l.row-index l.rows)
