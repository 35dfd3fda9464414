use Rattle.std.proofs.Common.{◌≡◌, ◌++◌}
use Rattle.delta_plan.proofs.asking.append.Given as goal

-- the rows so far are added
abbrev pub invariant-loop-row : goal.invariant-loop-row
invariant-loop-row l = l.rows.items ≡ l.initial.rows.items ++ l.yielded
