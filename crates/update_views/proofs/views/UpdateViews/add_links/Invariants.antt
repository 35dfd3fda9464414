use Rattle.std.proofs.Common.{◌≡◌, List, flat_map, length, take}
use Rattle.std.specs.List.{enumerate_from}
use Rattle.round_trip.specs.Words.{Hosted, SetId, Value}
use Rattle.case_laws.specs.filled_rows.Gathered.{rows_of_links}
use Rattle.update_views.specs.Placed.{with_rows}
use Rattle.update_views.specs.Views.{joined_row, local_rows}
use Rattle.update_views.proofs.views.UpdateViews.add_links.Given as goal

-- the rows of the association sets so far are added
abbrev pub invariant-loop-index : goal.invariant-loop-index
invariant-loop-index l = (length l.tables ≡ length l.initial.tables) × ((hosted : SetId → List Value → List Hosted) → l.tables ≡ with_rows l.initial.tables
    (flat_map (rows_of_links l.parts.model.now (local_rows l.self) (joined_row l.self) hosted) (take l.index (enumerate_from 0 l.links))))
