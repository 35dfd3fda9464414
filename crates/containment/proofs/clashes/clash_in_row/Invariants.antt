use Rattle.std.proofs.Common.{◌≡◌, ◌<◌, false}
use Rattle.round_trip.specs.Words.{ColId}
use Rattle.regions.specs.Shown.{cell_in}
use Rattle.regions.specs.declared.pattern.Symbol.{Symbol}
use Rattle.containment.specs.Cells.{are_apart}
use Rattle.containment.proofs.clashes.clash_in_row.Given as goal

-- the columns so far have no clash
abbrev pub invariant-loop-index : goal.invariant-loop-index
invariant-loop-index l = (col : ColId) (one two : Symbol) → col.index < l.index → are_apart l.model l.atoms (cell_in l.row col) one two ≡ false
