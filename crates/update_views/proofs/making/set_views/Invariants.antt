use Rattle.region_states.specs.region_basis.BasisOf.{basis_of}
use Rattle.region_partition.proofs.set_regions.Sets.{AreOfFirst}
use Rattle.update_views.specs.Making.{IsSetView}
use Rattle.update_views.proofs.making.set_views.Given as goal

-- the views so far
abbrev pub invariant-loop-index : goal.invariant-loop-index
invariant-loop-index l = AreOfFirst (IsSetView (basis_of l.parts)) l.index l.views
