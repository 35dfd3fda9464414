use Rattle.std.proofs.Common.{[]}
use Rattle.row_plans.specs.Waits.{AreEnds}
use Rattle.row_plans.proofs.waiting.ends.no_ends.Given as goal

-- no ends for each place so far
abbrev pub invariant-loop-place : goal.invariant-loop-place
invariant-loop-place l = AreEnds l._place [] l.ends.items
