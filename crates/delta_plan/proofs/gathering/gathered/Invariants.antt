use Rattle.std.proofs.Common.{◌≡◌, length}
use Rattle.round_trip.specs.Words.{TableId, rows_in}
use Rattle.delta_plan.specs.RowsOf.{named}
use Rattle.delta_plan.proofs.gathering.gathered.Given as goal

-- the rows so far stand in their tables
abbrev pub invariant-loop-one : goal.invariant-loop-one
invariant-loop-one l = (length l.tables ≡ length l.store.tables) × ((t : TableId) → rows_in l.tables t ≡ named t l.yielded)
