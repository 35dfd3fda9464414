use Rattle.std.proofs.Common.{◌≡◌, ◌++◌}
use Rattle.dangling_search.specs.Found.{pairs_by}
use Rattle.dangling_search.proofs.target.pairs_by.Given as goal

-- with the pairs of what is left these are all
abbrev pub invariant-loop-col : goal.invariant-loop-col
invariant-loop-col l = l.pairs ++ pairs_by l.col-iterator.a.rest.now l.col-iterator.b.rest.now ≡ pairs_by l.cols l.props
