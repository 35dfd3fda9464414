use Rattle.std.proofs.Common.{◌≡◌, map, take}
use Rattle.std.specs.List.{enumerate_from}
use Rattle.region_states.specs.region_basis.BasisOf.{basis_of}
use Rattle.update_views.specs.Making.{joined_by}
use Rattle.update_views.proofs.making.joined_rows.Given as goal

-- the rows so far
abbrev pub invariant-loop-index : goal.invariant-loop-index
invariant-loop-index l = l.rows ≡ map (joined_by (basis_of l.parts) l.parts.cells.now.places) (take l.index (enumerate_from 0 l.parts.model.now.assocs))
