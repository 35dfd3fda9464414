use Rattle.table_files.proofs.table_legality.Held.{HoldsTo}
use Rattle.table_files.proofs.table_legality.references.held_cells.Given as goal

-- the set has just what the rows that were passed hold
abbrev pub invariant-loop-row : goal.invariant-loop-row
invariant-loop-row l = HoldsTo l.rows l.cols l.held l.row-index
