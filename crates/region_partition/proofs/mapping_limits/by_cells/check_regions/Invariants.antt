use Rattle.std.proofs.Common.{◌≡◌, [], flat_map, take}
use Rattle.std.specs.List.{enumerate_from}
use Rattle.region_states.specs.region_basis.BasisOf.{basis_of}
use Rattle.region_partition.specs.mapping_limits.FirstLimit.{regions_passed}
use Rattle.region_partition.proofs.mapping_limits.by_cells.check_regions.Given as goal

-- none of the sets so far passes the limit
abbrev pub invariant-loop-index : goal.invariant-loop-index
invariant-loop-index l = flat_map (regions_passed (basis_of l.parts)) (take l.index (enumerate_from 0 l.parts.model.now.sets)) ≡ []
