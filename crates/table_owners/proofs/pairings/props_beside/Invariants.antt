use Rattle.std.proofs.Common.{◌≡◌, filter_map, take}
use Rattle.table_owners.specs.Sources.{prop_beside}
use Rattle.table_owners.proofs.pairings.props_beside.Given as goal

-- what is found beside the columns so far
abbrev pub invariant-loop-col : goal.invariant-loop-col
invariant-loop-col l = l.props ≡ filter_map (prop_beside l.pairs) (take l.col-index l.key)
