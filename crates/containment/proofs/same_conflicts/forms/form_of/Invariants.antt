use Rattle.std.proofs.Common.{◌≡◌, map, take}
use Rattle.region_states.specs.region_basis.BasisOf.{basis_of}
use Rattle.containment.specs.same_conflicts.Forms.{row_form, shown_row}
use Rattle.containment.proofs.same_conflicts.forms.form_of.Given as goal

-- the rows so far have come
abbrev pub invariant-loop-row : goal.invariant-loop-row
invariant-loop-row l = map shown_row l.rows.items ≡ map (row_form (basis_of l.parts) l.atoms) (take l.row-index l.one.pattern.rows)
