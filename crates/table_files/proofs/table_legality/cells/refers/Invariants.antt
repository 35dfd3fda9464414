use Rattle.std.proofs.Common.{◌≢◌}
use Rattle.round_trip.specs.Words.{Null, cell_of}
use Rattle.entity_state.proofs.breach_order.Turns.{EachTo}
use Rattle.table_files.proofs.table_legality.cells.refers.Given as goal

-- the columns that were passed aren't null
abbrev pub invariant-loop-col : goal.invariant-loop-col
invariant-loop-col l = EachTo (λ _ col. cell_of l.row col ≢ Null) l.cols l.col-index
