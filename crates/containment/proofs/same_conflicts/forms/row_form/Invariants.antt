use Rattle.std.proofs.Common.{◌≡◌, map, take}
use Rattle.std.specs.List.{enumerate_from}
use Rattle.region_states.specs.region_basis.BasisOf.{basis_of}
use Rattle.containment.specs.same_conflicts.Forms.{held_at}
use Rattle.containment.proofs.same_conflicts.forms.row_form.Given as goal

-- the cells so far have come
abbrev pub invariant-loop-index : goal.invariant-loop-index
invariant-loop-index l = l.cells.items ≡ map (held_at (basis_of l.parts) l.row.table l.atoms) (take l.index (enumerate_from 0 l.row.cells))
