use Rattle.cells.specs.Cells.{is_free_in}
use Rattle.region_states.specs.region_basis.BasisOf.{basis_of}
use Rattle.query_views.proofs.SetCases.{all_cases}
use Rattle.query_views.proofs.making.cases_of_sets.Goals as goal

pub returns : goal.returns
returns c =
    let parts = c.args.parts.now in
    all_cases (basis_of parts) (is_free_in parts.cells.now) c.args.regions.now c.as_slice-of_set-items.result.now c.loop-of_set.of_set-index c.loop-of_set.cases
    c.requires.regions c.as_slice-of_set-items.ensures.items c.loop-of_set-test.false c.loop-of_set.invariant
