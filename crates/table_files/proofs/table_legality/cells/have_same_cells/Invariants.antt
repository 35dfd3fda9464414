use Rattle.std.proofs.Common.{◌≡◌, ◌<◌, ℕ, length}
use Rattle.emc_base.specs.Lists.{At}
use Rattle.round_trip.specs.Words.{ColId, cell_of}
use Rattle.table_files.proofs.table_legality.cells.have_same_cells.Given as goal

-- as many columns, and the cells of those that were passed are the same
abbrev pub invariant-loop-place : goal.invariant-loop-place
invariant-loop-place l = (length l.cols ≡ length l.other_cols) × ((k : ℕ) (one other : ColId) → At l.cols k one → At l.other_cols k other → k < l.place → cell_of l.row one ≡ cell_of l.other other)
