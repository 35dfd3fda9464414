use Rattle.std.proofs.Common.{◌≡◌, take}
use Rattle.edm_types.specs.Rows.{cells_of}
use Rattle.table_files.proofs.cells.has_cells.Given as goal

-- the row has the values in the columns that were passed
abbrev pub invariant-loop-i : goal.invariant-loop-i
invariant-loop-i l = cells_of l.row (take l.i l.cols) ≡ take l.i l.values
