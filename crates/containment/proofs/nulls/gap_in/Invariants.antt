use Rattle.std.proofs.Common.{All, take}
use Rattle.region_states.specs.region_basis.BasisOf.{basis_of}
use Rattle.containment.specs.Cells.{HasNoGap}
use Rattle.containment.specs.Lent.{focus_in}
use Rattle.containment.proofs.nulls.gap_in.Given as goal

-- the rows so far have no gap
abbrev pub invariant-loop-row : goal.invariant-loop-row
invariant-loop-row l = All (HasNoGap (basis_of l.parts) (focus_in l.of)) (take l.row-index l.rows)
