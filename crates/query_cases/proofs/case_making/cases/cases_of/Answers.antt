use Rattle.std.proofs.Common.{length, refl}
use Rattle.std.proofs.lemmas.Option.{slice_get_read}
use Rattle.cells.specs.Cells.{is_free_in}
use Rattle.region_states.specs.region_basis.BasisOf.{basis_of}
use Rattle.case_laws.specs.region_cases.Cases.{case_of}
use Rattle.query_cases.proofs.case_making.Made.{one_more_made}
use Rattle.query_cases.proofs.case_making.cases.cases_of.Goals as goal

pub loop-region-preserved : goal.loop-region-preserved
loop-region-preserved c =
    let parts = c.args.parts.now in
    let regions = c.args.regions.now in
    let i = c.loop-region.region-index in
    one_more_made (case_of (is_free_in parts.cells.now) (basis_of parts)) regions i c.region-item.result
    (slice_get_read regions (length regions) i c.region-item.result refl c.loop-region-test.true c.region-item.is)
    c.loop-region.cases c.push.new.self c.in_ok-case_of.field-0 c.loop-region.invariant c.in_ok-push.ensures.ok c.in_ok-case_of.ensures
