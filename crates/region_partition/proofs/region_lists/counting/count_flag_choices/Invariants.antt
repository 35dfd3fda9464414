use Rattle.std.proofs.Common.{◌≡◌, length, map}
use Rattle.regions.specs.Regions.{flags_at}
use Rattle.regions.specs.region_laws.Counting.{product_of}
use Rattle.region_states.specs.region_basis.BasisOf.{basis_of}
use Rattle.region_partition.specs.region_lists.Counts.{capped}
use Rattle.region_partition.proofs.region_lists.Hosts.{hosts_before}
use Rattle.region_partition.proofs.region_lists.counting.count_flag_choices.Given as goal

-- the number of choices among the flags of the associations so far
abbrev pub invariant-loop-index : goal.invariant-loop-index
invariant-loop-index l = l.product ≡ capped (product_of (map (λ host. length (flags_at (basis_of l.parts) l.ty host)) (hosts_before l.parts l.set l.index)))
