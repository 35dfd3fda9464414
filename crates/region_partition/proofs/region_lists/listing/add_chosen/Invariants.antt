use Rattle.std.proofs.Common.{◌≡◌, ◌++◌, flat_map, map, take}
use Rattle.region_partition.specs.region_lists.Listing.{region_with}
use Rattle.region_partition.proofs.region_lists.listing.add_chosen.Given as goal

-- those with the atoms so far have come
abbrev pub invariant-loop-atoms : goal.invariant-loop-atoms
invariant-loop-atoms l = l.regions ≡ l.initial.regions ++ flat_map (λ atoms. map (region_with l.set l.ty atoms) l.linked) (take l.atoms-index l.atoms-items)
