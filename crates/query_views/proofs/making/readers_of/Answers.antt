use Rattle.std.proofs.Common.{length, List, refl, subst}
use Rattle.std.proofs.lemmas.Option.{slice_get_read}
use Rattle.cells.specs.Cells.{is_free_in}
use Rattle.region_states.specs.region_basis.BasisOf.{basis_of}
use Rattle.case_laws.specs.declared.region_cases.case.Case.{Case}
use Rattle.query_views.specs.Views.{IsReaderOf}
use Rattle.query_views.proofs.SetCases.{set_cases}
use Rattle.query_views.proofs.Zips.{one_more_beside}
use Rattle.query_views.proofs.making.readers_of.Goals as goal

pub loop-of_set-preserved : goal.loop-of_set-preserved
loop-of_set-preserved c =
    let basis = basis_of c.args.parts.now in
    let cases = c.args.cases.now in
    let i = c.loop-of_set.of_set-index in
    one_more_beside (IsReaderOf basis) cases i c.of_set-item.result c.loop-of_set.readers c.push.new.self c.in_ok-reader_of.field-0
    (slice_get_read cases (length cases) i c.of_set-item.result refl c.loop-of_set-test.true c.of_set-item.is)
    c.loop-of_set.invariant c.in_ok-push.ensures.ok
    (subst (λ (list : List Case). IsReaderOf basis list c.in_ok-reader_of.field-0) c.as_slice.ensures.items c.in_ok-reader_of.ensures)

pub reader_of-requires-clause-cases : goal.reader_of-requires-clause-cases
reader_of-requires-clause-cases c =
    let parts = c.args.parts.now in
    let cases = c.args.cases.now in
    let i = c.loop-of_set.of_set-index in
    set_cases (basis_of parts) (is_free_in parts.cells.now) cases i c.of_set-item.result c.as_slice.result.now c.requires.cases
    (slice_get_read cases (length cases) i c.of_set-item.result refl c.loop-of_set-test.true c.of_set-item.is) c.as_slice.ensures.items
