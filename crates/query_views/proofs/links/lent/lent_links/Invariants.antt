use Rattle.cells.specs.Cells.{is_free_in}
use Rattle.region_states.specs.region_basis.BasisOf.{basis_of}
use Rattle.query_views.proofs.links.LinkLists.{AreLentOfFirst}
use Rattle.query_views.proofs.links.lent.lent_links.Given as goal

-- the links of the associations so far are lent
abbrev pub invariant-loop-index : goal.invariant-loop-index
invariant-loop-index l = AreLentOfFirst (basis_of l.parts) (is_free_in l.parts.cells.now) l.tables l.index l.links.items
