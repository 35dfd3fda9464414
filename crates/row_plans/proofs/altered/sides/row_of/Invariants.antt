use Rattle.std.proofs.Common.{◌≡◌, drop}
use Rattle.row_plans.specs.Altered.{first_of}
use Rattle.row_plans.proofs.altered.sides.row_of.Given as goal

-- the first row of the side stands further on
abbrev pub invariant-loop-one : goal.invariant-loop-one
invariant-loop-one l = first_of l.side l.rows ≡ first_of l.side (drop l.one-index l.rows)
