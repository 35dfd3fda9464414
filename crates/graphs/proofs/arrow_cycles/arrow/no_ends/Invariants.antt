use Rattle.std.proofs.Common.{[]}
use Rattle.graphs.specs.arrow_cycles.Ends.{IsEnds}
use Rattle.graphs.proofs.arrow_cycles.arrow.no_ends.Given as goal

-- no ends for each place so far
abbrev pub invariant-loop-place : goal.invariant-loop-place
invariant-loop-place l = IsEnds l._place [] l.ends.items
