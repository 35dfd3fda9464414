use Rattle.std.proofs.Common.{◌≡◌, ◌++◌, map, take}
use Rattle.region_partition.specs.region_lists.Listing.{region_with}
use Rattle.region_partition.proofs.region_lists.listing.add_linked.Given as goal

-- those with the links so far have come
abbrev pub invariant-loop-assocs : goal.invariant-loop-assocs
invariant-loop-assocs l = l.regions ≡ l.initial.regions ++ map (region_with l.set l.ty l.atoms) (take l.assocs-index l.linked)
