use Rattle.std.proofs.Common.{◌≡◌, drop}
use Rattle.std.specs.List.{enumerate_from, flat_map}
use Rattle.region_states.specs.region_basis.BasisOf.{basis_of, host_at}
use Rattle.region_partition.specs.region_search.Standing.{all_cmp, host_cmp}
use Rattle.region_partition.proofs.region_search.flags.compare_flags.Given as goal

-- the flags of the associations that were passed are those of the links
abbrev pub invariant-loop-index : goal.invariant-loop-index
invariant-loop-index l =
    let cmp = host_cmp (basis_of l.parts) l.links l.linked in
    let hosts = host_at l.parts.cells.now.places l.set in
    all_cmp cmp (flat_map hosts (enumerate_from 0 l.parts.model.now.assocs)) ≡ all_cmp cmp (flat_map hosts (drop l.index (enumerate_from 0 l.parts.model.now.assocs)))
