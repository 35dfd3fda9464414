use Rattle.std.proofs.Common.{◌≡◌, map, take}
use Rattle.cells.specs.Cells.{is_free_in}
use Rattle.region_states.specs.region_basis.BasisOf.{basis_of}
use Rattle.case_laws.specs.region_cases.Cases.{case_of}
use Rattle.query_views.proofs.making.cases_of_sets.Given as goal

-- the cases of the sets so far have come
abbrev pub invariant-loop-of_set : goal.invariant-loop-of_set
invariant-loop-of_set l = l.cases ≡ map (map (case_of (is_free_in l.parts.cells.now) (basis_of l.parts))) (take l.of_set-index l.of_set-items)
