use Rattle.std.proofs.Common.{◌≡◌, [], flat_map, take}
use Rattle.std.specs.List.{enumerate_from}
use Rattle.region_states.specs.region_basis.BasisOf.{basis_of}
use Rattle.region_partition.specs.mapping_limits.FirstLimit.{constants_passed}
use Rattle.region_partition.proofs.mapping_limits.by_cells.check_constants.Given as goal

-- the group of none of the properties so far passes the limit
abbrev pub invariant-loop-index : goal.invariant-loop-index
invariant-loop-index l = flat_map (constants_passed (basis_of l.parts)) (take l.index (enumerate_from 0 l.parts.model.now.props)) ≡ []
