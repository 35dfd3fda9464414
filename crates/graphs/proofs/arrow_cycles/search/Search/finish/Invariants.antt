use Rattle.graphs.specs.arrow_cycles.Searches.{IsLater, left_of}
use Rattle.graphs.proofs.arrow_cycles.search.Search.finish.Given as goal

-- the search goes on
abbrev pub invariant-loop-group : goal.invariant-loop-group
invariant-loop-group l = IsLater l.ends l.fn.self l.self

-- how many steps are left
abbrev pub decreases-loop-group : goal.decreases-loop-group
decreases-loop-group l = left_of l.ends l.self
