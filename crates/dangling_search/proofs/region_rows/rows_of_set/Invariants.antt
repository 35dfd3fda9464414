use Rattle.std.proofs.Common.{◌≡◌, map, take}
use Rattle.region_states.specs.region_basis.BasisOf.{basis_of}
use Rattle.dangling_search.specs.Rows.{region_rows}
use Rattle.dangling_search.proofs.region_rows.rows_of_set.Given as goal

-- those so far have come
abbrev pub invariant-loop-region : goal.invariant-loop-region
invariant-loop-region l = l.list ≡ map (region_rows (basis_of l.parts)) (take l.region-index l.regions)
