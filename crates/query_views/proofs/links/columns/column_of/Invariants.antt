use Rattle.std.proofs.Common.{◌≢◌, All, take}
use Rattle.query_views.proofs.links.columns.column_of.Given as goal

-- none of the pairs so far is of the property
abbrev pub invariant-loop-pair : goal.invariant-loop-pair
invariant-loop-pair l = All (λ pair. pair.prop ≢ l.prop) (take l.pair-index l.pairs)
