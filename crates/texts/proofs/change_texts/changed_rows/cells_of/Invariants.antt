use Rattle.std.proofs.Common.{◌≡◌, take}
use Rattle.round_trip.specs.Words.{cells_of}
use Rattle.texts.proofs.change_texts.changed_rows.cells_of.Given as goal

-- the cells of the columns that were passed
abbrev pub invariant-loop-col : goal.invariant-loop-col
invariant-loop-col l = l.cells ≡ cells_of l.row (take l.col-index l.cols)
