use Rattle.std.proofs.Common.{◌≡◌, flat_map}
use Rattle.regions.specs.Regions.{regions_by}
use Rattle.region_states.specs.region_basis.BasisOf.{basis_of}
use Rattle.region_partition.proofs.region_lists.Types.{types_before}
use Rattle.region_partition.proofs.region_lists.listing.regions_of_set.Given as goal

-- those of the types so far have come
abbrev pub invariant-loop-index : goal.invariant-loop-index
invariant-loop-index l = l.regions ≡ flat_map (regions_by (basis_of l.parts) l.set) (types_before l.parts l.entry l.index)
