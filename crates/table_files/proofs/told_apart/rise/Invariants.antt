use Rattle.std.proofs.Common.{◌≤◌}
use Rattle.table_files.proofs.TellsApart.{RisesTo}
use Rattle.table_files.proofs.told_apart.rise.Given as goal

-- the entries that were passed rise
abbrev pub invariant-loop-i : goal.invariant-loop-i
invariant-loop-i l = (1 ≤ l.i) × RisesTo l.cols l.entries l.i
