use Rattle.std.proofs.Common.{◌≡◌, [], List, length, take}
use Rattle.std.specs.List.{enumerate_from, flat_map}
use Rattle.round_trip.specs.Words.{SetId, Value}
use Rattle.cells.specs.HostedLinks.{hosted_by}
use Rattle.cells.specs.host_links.Grouped.{links_of}
use Rattle.cells.proofs.host_links.links.HostLinks.of.Given as goal

-- there is a map for each set, and those of the associations so far have come
abbrev pub invariant-loop-index : goal.invariant-loop-index
invariant-loop-index l = (length l.by_set.items ≡ length l.model.sets)
    × ((s : SetId) (key : List Value) → links_of l.by_set.items [] s key ≡ flat_map (hosted_by l.cells l.state s key) (take l.index (enumerate_from 0 l.model.assocs)))
