use Rattle.std.proofs.Common.{All, take}
use Rattle.containment.specs.Cells.{HasNoClash}
use Rattle.containment.proofs.clashes.clash_in.Given as goal

-- the rows so far have no clash
abbrev pub invariant-loop-row : goal.invariant-loop-row
invariant-loop-row l = All (HasNoClash l.model l.atoms) (take l.row-index l.rows)
