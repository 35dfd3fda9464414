use Rattle.std.proofs.Common.{◌≡◌, map, take}
use Rattle.std.specs.List.{enumerate_from}
use Rattle.delta_plan.specs.Running.{rows_left}
use Rattle.delta_plan.proofs.running.lists.row_lists.Given as goal

-- what becomes of each list so far
abbrev pub invariant-loop-place : goal.invariant-loop-place
invariant-loop-place l = l.made.items ≡ map (rows_left l.store l.fates) (take l.place (enumerate_from 0 l.lists))
