use Rattle.std.proofs.Common.{◌≡◌, take}
use Rattle.round_trip.specs.Words.{cells_of}
use Rattle.delta_plan.proofs.running.row_spots.key_of.Given as goal

-- the cells of the columns so far
abbrev pub invariant-loop-col : goal.invariant-loop-col
invariant-loop-col l = l.key ≡ cells_of l.row (take l.col-index l.col-items)
