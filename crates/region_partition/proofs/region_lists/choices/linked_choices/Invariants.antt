use Rattle.std.proofs.Common.{◌≡◌, map}
use Rattle.regions.specs.Regions.{flags_at}
use Rattle.region_states.specs.region_basis.BasisOf.{basis_of}
use Rattle.region_partition.specs.region_lists.Listing.{joined_choices}
use Rattle.region_partition.proofs.region_lists.Hosts.{hosts_before}
use Rattle.region_partition.proofs.region_lists.choices.linked_choices.Given as goal

-- the choices among the flags of the associations so far
abbrev pub invariant-loop-index : goal.invariant-loop-index
invariant-loop-index l = l.linked ≡ joined_choices (map (flags_at (basis_of l.parts) l.ty) (hosts_before l.parts l.set l.index))
