use Rattle.std.proofs.Common.{◌≡◌, map, take}
use Rattle.update_views.specs.view_rows.Held.{held_by_link}
use Rattle.update_views.proofs.view_rows.link_rows.values_of.Given as goal

-- the values so far
abbrev pub invariant-loop-cell : goal.invariant-loop-cell
invariant-loop-cell l = l.values ≡ map (held_by_link l.link) (take l.cell-index l.cells)
