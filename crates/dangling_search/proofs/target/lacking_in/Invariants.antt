use Rattle.std.proofs.Common.{◌≡◌, take}
use Rattle.std.specs.List.{filter_map}
use Rattle.dangling_search.specs.Rows.{lacking}
use Rattle.dangling_search.proofs.target.lacking_in.Given as goal

-- those so far that lack a row have come
abbrev pub invariant-loop-of_region : goal.invariant-loop-of_region
invariant-loop-of_region l = l.list ≡ filter_map (lacking l.table) (take l.of_region-index l.rows)
