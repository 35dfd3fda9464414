use Rattle.groupings.specs.least_fault.Least.{IsLeast}
use Rattle.groupings.proofs.least_fault.Leasts.{AmongFirst}
use Rattle.groupings.proofs.least_fault.finder.first_among.Given as goal

-- the least of what is wrong with the items that were passed
abbrev pub invariant-loop-place : goal.invariant-loop-place
invariant-loop-place g l = IsLeast g.F.Ord.cmp (AmongFirst (g.S.Finder.wrong l.search) l.items l.place) l.found
