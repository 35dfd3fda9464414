use Rattle.std.proofs.Common.{◌≡◌, map, take}
use Rattle.region_states.specs.region_basis.BasisOf.{basis_of}
use Rattle.update_views.specs.view_rows.Made.{rows_of_region}
use Rattle.update_views.proofs.making.rows_of_regions.Given as goal

-- the rows so far
abbrev pub invariant-loop-region : goal.invariant-loop-region
invariant-loop-region l = l.rows ≡ map (rows_of_region (basis_of l.parts)) (take l.region-index l.regions)
