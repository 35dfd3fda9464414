use Rattle.std.proofs.Common.{◌≡◌, ◌<◌, false}
use Rattle.round_trip.specs.Words.{ColId}
use Rattle.region_states.specs.region_basis.BasisOf.{basis_of}
use Rattle.regions.specs.declared.pattern.Symbol.{Symbol}
use Rattle.containment.specs.Cells.{lacks}
use Rattle.containment.specs.Lent.{focus_in}
use Rattle.containment.proofs.nulls.gap_in_row.Given as goal

-- the columns so far have no gap
abbrev pub invariant-loop-index : goal.invariant-loop-index
invariant-loop-index l = (col : ColId) (one : Symbol) → col.index < l.index → lacks (basis_of l.parts) (focus_in l.of) l.row col one ≡ false
