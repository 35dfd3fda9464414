use Rattle.std.proofs.Common.{◌≡◌, map, take}
use Rattle.cells.specs.Cells.{is_free_in}
use Rattle.region_states.specs.region_basis.BasisOf.{basis_of}
use Rattle.case_laws.specs.region_cases.Cases.{case_of}
use Rattle.query_cases.proofs.case_making.cases.cases_of.Given as goal

-- the cases of the regions so far have come
abbrev pub invariant-loop-region : goal.invariant-loop-region
invariant-loop-region l = l.cases ≡ map (case_of (is_free_in l.parts.cells.now) (basis_of l.parts)) (take l.region-index l.regions)
