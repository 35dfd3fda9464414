use Rattle.std.proofs.Common.{length, refl}
use Rattle.std.proofs.lemmas.List.Elements.{All-contains}
use Rattle.std.proofs.lemmas.Option.{slice_get_read}
use Rattle.emc_base.proofs.Mapped.{contains_at}
use Rattle.cells.specs.Cells.{is_free_in}
use Rattle.region_states.specs.region_basis.BasisOf.{basis_of}
use Rattle.query_cases.specs.case_reading.Reading.{IsReadingOf}
use Rattle.query_views.specs.Views.{IsCaseOf}
use Rattle.query_views.proofs.Zips.{one_more_beside}
use Rattle.query_views.proofs.making.readings_of.Goals as goal

pub loop-case-preserved : goal.loop-case-preserved
loop-case-preserved c =
    let cases = c.args.cases.now in
    let i = c.loop-case.case-index in
    one_more_beside (IsReadingOf (basis_of c.args.parts.now)) cases i c.case-item.result c.loop-case.readings c.push.new.self c.in_ok-of.field-0
    (slice_get_read cases (length cases) i c.case-item.result refl c.loop-case-test.true c.case-item.is)
    c.loop-case.invariant c.in_ok-push.ensures.ok c.in_ok-of.ensures

pub of-requires-clause-case : goal.of-requires-clause-case
of-requires-clause-case c =
    let parts = c.args.parts.now in
    let cases = c.args.cases.now in
    let i = c.loop-case.case-index in
    All-contains (IsCaseOf (basis_of parts) (is_free_in parts.cells.now)) cases c.case-item.result c.requires.cases
    (contains_at cases i c.case-item.result (slice_get_read cases (length cases) i c.case-item.result refl c.loop-case-test.true c.case-item.is))
