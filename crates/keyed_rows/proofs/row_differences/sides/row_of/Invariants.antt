use Rattle.std.proofs.Common.{◌≢◌, All, take}
use Rattle.keyed_rows.proofs.row_differences.sides.row_of.Given as goal

-- the rows so far are of the other side
abbrev pub invariant-loop-one : goal.invariant-loop-one
invariant-loop-one l = All (λ one. one.side ≢ l.side) (take l.one-index l.rows)
