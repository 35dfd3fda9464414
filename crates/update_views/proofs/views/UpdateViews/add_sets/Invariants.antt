use Rattle.std.proofs.Common.{◌≡◌, flat_map, length, take}
use Rattle.std.specs.List.{enumerate_from}
use Rattle.cells.specs.host_links.Grouped.{links_in}
use Rattle.case_laws.specs.filled_rows.Gathered.{rows_of_set}
use Rattle.update_views.specs.Placed.{with_rows}
use Rattle.update_views.specs.Views.{joined_row, local_rows}
use Rattle.update_views.proofs.views.UpdateViews.add_sets.Given as goal

-- the rows of the sets so far are added
abbrev pub invariant-loop-index : goal.invariant-loop-index
invariant-loop-index l = (length l.tables ≡ length l.initial.tables) × (l.tables ≡ with_rows l.initial.tables
    (flat_map (rows_of_set l.parts.model.now (local_rows l.self) (joined_row l.self) (links_in l.hosts)) (take l.index (enumerate_from 0 l.entities))))
