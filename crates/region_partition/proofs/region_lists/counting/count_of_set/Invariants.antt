use Rattle.std.proofs.Common.{◌≡◌, sum_by}
use Rattle.regions.specs.region_laws.Counting.{count_by}
use Rattle.region_states.specs.region_basis.BasisOf.{basis_of}
use Rattle.region_partition.specs.region_lists.Counts.{capped}
use Rattle.region_partition.proofs.region_lists.Types.{types_before}
use Rattle.region_partition.proofs.region_lists.counting.count_of_set.Given as goal

-- the number of those of the types so far
abbrev pub invariant-loop-index : goal.invariant-loop-index
invariant-loop-index l = l.total ≡ capped (sum_by (count_by (basis_of l.parts) l.set) (types_before l.parts l.entry l.index))
