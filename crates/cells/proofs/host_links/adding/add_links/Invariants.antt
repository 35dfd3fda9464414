use Rattle.std.proofs.Common.{◌≡◌, ◌++◌, [], List, take}
use Rattle.round_trip.specs.Words.{Value}
use Rattle.cells.specs.HostedLinks.{of_key}
use Rattle.cells.specs.host_links.Grouped.{links_at_key}
use Rattle.cells.proofs.host_links.adding.add_links.Given as goal

-- the links so far stand at their keys
abbrev pub invariant-loop-link : goal.invariant-loop-link
invariant-loop-link l = (key : List Value) → links_at_key l.by_key [] key ≡ links_at_key l.initial.by_key [] key ++ of_key l.first_hosts l.id key (take l.link-index l.links)
