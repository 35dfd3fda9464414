use Rattle.region_states.specs.region_basis.BasisOf.{basis_of}
use Rattle.region_partition.proofs.set_regions.Sets.{AreOfFirst, AreRegionsOf}
use Rattle.region_partition.proofs.set_regions.all_regions.regions_of_sets.Given as goal

-- the regions of the sets so far
abbrev pub invariant-loop-index : goal.invariant-loop-index
invariant-loop-index l = AreOfFirst (AreRegionsOf (basis_of l.parts)) l.index l.of_sets
