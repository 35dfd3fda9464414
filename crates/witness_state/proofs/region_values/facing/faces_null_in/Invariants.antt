use Rattle.std.proofs.Common.{◌≡◌, false, take}
use Rattle.std.specs.List.{enumerate_from, list_any}
use Rattle.regions.specs.Basis.{Basis}
use Rattle.witness_state.specs.region_values.Rivals.{IsRival}
use Rattle.witness_state.proofs.region_values.Faced.{faces_at}
use Rattle.witness_state.proofs.region_values.facing.faces_null_in.Given as goal

-- no column so far does
abbrev pub invariant-loop-index : goal.invariant-loop-index
invariant-loop-index l = (basis : Basis) → IsRival basis l.rival
    → list_any (faces_at basis l.rival.other.now l.property l.row) (take l.index (enumerate_from 0 l.row.cells)) ≡ false
