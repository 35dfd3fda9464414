use Rattle.std.proofs.Common.{◌<◌}
use Rattle.cells.specs.Cells.{is_free_in}
use Rattle.round_trip.specs.Words.{ColId}
use Rattle.keyed_rows.specs.row_differences.Differences.{DiffersIn}
use Rattle.keyed_rows.proofs.row_differences.comparing.cells_differ.Given as goal

-- the rows don't differ in the columns so far
abbrev pub invariant-loop-index : goal.invariant-loop-index
invariant-loop-index l = (col : ColId) → col.index < l.index → ¬ DiffersIn (is_free_in l.cells l.id) l.held l.demanded col
