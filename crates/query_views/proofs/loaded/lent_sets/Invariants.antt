use Rattle.cells.specs.Cells.{is_free_in}
use Rattle.region_states.specs.region_basis.BasisOf.{basis_of}
use Rattle.region_partition.proofs.set_regions.Sets.{AreOfFirst}
use Rattle.query_views.proofs.Candidates.{AreLentOf}
use Rattle.query_views.proofs.loaded.lent_sets.Given as goal

-- the entities of the sets so far are lent
abbrev pub invariant-loop-index : goal.invariant-loop-index
invariant-loop-index l = AreOfFirst (AreLentOf (basis_of l.parts) (is_free_in l.parts.cells.now) l.tables) l.index l.sets.items
