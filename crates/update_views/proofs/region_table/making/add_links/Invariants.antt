use Rattle.std.proofs.Common.{◌≡◌, ◌++◌, map}
use Rattle.region_states.specs.region_basis.BasisOf.{basis_of}
use Rattle.region_partition.proofs.region_lists.Hosts.{hosts_before}
use Rattle.update_views.specs.region_table.Made.{link_test}
use Rattle.update_views.proofs.region_table.making.add_links.Given as goal

-- those of the associations so far have come
abbrev pub invariant-loop-index : goal.invariant-loop-index
invariant-loop-index l = l.tests ≡ l.initial.tests ++ map (link_test (basis_of l.parts) l.ty) (hosts_before l.parts l.set l.index)
