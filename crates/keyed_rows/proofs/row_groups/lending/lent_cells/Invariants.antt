use Rattle.std.proofs.Common.{◌≡◌, take}
use Rattle.edm_types.specs.Rows.{cells_of}
use Rattle.keyed_rows.specs.row_groups.Shown.{shown_cells}
use Rattle.keyed_rows.proofs.row_groups.lending.lent_cells.Given as goal

-- the cells of the columns that were passed are lent
abbrev pub invariant-loop-col : goal.invariant-loop-col
invariant-loop-col l = shown_cells l.cells ≡ cells_of l.row (take l.col-index l.cols)
