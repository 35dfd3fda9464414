use Rattle.std.proofs.Common.{◌≡◌, take}
use Rattle.edm_types.specs.Rows.{cells_of}
use Rattle.keyed_rows.proofs.row_differences.alike.has_same_cells.Given as goal

-- the rows hold the same values in the columns so far
abbrev pub invariant-loop-col : goal.invariant-loop-col
invariant-loop-col l = cells_of l.one (take l.col-index l.cols) ≡ cells_of l.other (take l.col-index l.cols)
