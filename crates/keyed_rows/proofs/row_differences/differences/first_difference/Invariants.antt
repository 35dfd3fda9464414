use Rattle.std.proofs.Common.{◌<◌, List, Option}
use Rattle.cells.specs.Cells.{is_free_in}
use Rattle.round_trip.specs.Words.{TableId, Value, Row}
use Rattle.keyed_rows.specs.row_differences.Differences.{DifferAt}
use Rattle.keyed_rows.proofs.row_differences.differences.first_difference.Given as goal

-- no rows of the tables so far differ
abbrev pub invariant-loop-index : goal.invariant-loop-index
invariant-loop-index l = (u : TableId) → u.index < l.index → (key : List Value) (one two : Option Row) → ¬ DifferAt l.store (is_free_in l.cells) l.tables l.fresh u key one two
