use Rattle.std.proofs.Common.{◌≡◌, flat_map, length, take}
use Rattle.round_trip.specs.Words.{key_of}
use Rattle.cells.specs.host_links.Grouped.{links_in}
use Rattle.update_views.specs.Placed.{with_rows}
use Rattle.update_views.specs.Views.{local_rows}
use Rattle.update_views.proofs.views.UpdateViews.add_entities.Given as goal

-- the rows of the entities so far are added
abbrev pub invariant-loop-place : goal.invariant-loop-place
invariant-loop-place l = (length l.tables ≡ length l.initial.tables) × (l.tables ≡ with_rows l.initial.tables
    (flat_map (λ entity. local_rows l.self l.set entity (links_in l.hosts l.set (key_of l.parts.model.now entity))) (take l.place l.entities)))
