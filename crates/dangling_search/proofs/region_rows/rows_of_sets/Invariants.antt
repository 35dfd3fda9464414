use Rattle.std.proofs.Common.{◌≡◌, map, take}
use Rattle.region_states.specs.region_basis.BasisOf.{basis_of}
use Rattle.dangling_search.specs.Rows.{region_rows}
use Rattle.dangling_search.proofs.region_rows.rows_of_sets.Given as goal

-- those so far have come
abbrev pub invariant-loop-of_set : goal.invariant-loop-of_set
invariant-loop-of_set l = l.list ≡ map (map (region_rows (basis_of l.parts))) (take l.of_set-index l.regions)
