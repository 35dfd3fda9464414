use Rattle.std.proofs.Common.{◌≡◌, length, All}
use Rattle.std.specs.BTreeMap.{IsEmpty}
use Rattle.cells.proofs.host_links.links.empty_maps.Given as goal

-- one for each set so far, each empty
abbrev pub invariant-loop : goal.invariant-loop
invariant-loop l = (length l.maps.items ≡ l.index) × All IsEmpty l.maps.items
