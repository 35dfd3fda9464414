use Rattle.std.proofs.Common.{◌≡◌, drop}
use Rattle.std.specs.Cmp.Lexicographic.{slice_cmp}
use Rattle.emc_base.specs.Order.{value_cmp}
use Rattle.edm_types.specs.Rows.{cells_of}
use Rattle.table_files.proofs.cells.compare_rows.Given as goal

-- the rows are alike in the columns that were passed
abbrev pub invariant-loop-col : goal.invariant-loop-col
invariant-loop-col l = slice_cmp value_cmp (cells_of l.one l.cols) (cells_of l.two l.cols)
    ≡ slice_cmp value_cmp (cells_of l.one (drop l.col-index l.cols)) (cells_of l.two (drop l.col-index l.cols))
