use Rattle.std.proofs.Common.{◌≡◌, length, map, take}
use Rattle.update_views.specs.view_rows.Held.{row_by_link}
use Rattle.update_views.specs.Placed.{with_rows}
use Rattle.update_views.proofs.state_tables.add_link_rows.Given as goal

-- the rows so far are added
abbrev pub invariant-loop-link : goal.invariant-loop-link
invariant-loop-link l = (length l.tables ≡ length l.initial.tables) × (l.tables ≡ with_rows l.initial.tables (map (row_by_link l.row) (take l.link-index l.links)))
