use Rattle.std.proofs.Common.{◌≡◌, ℕ, All, get_or, true≢false, sym, subst, ◌∙◌}
use Rattle.std.proofs.lemmas.List.{take_all}
use Rattle.std.proofs.lemmas.List.Elements.{All-more}
use Rattle.std.proofs.lemmas.Option.{get_or_from_slice_get}
use Rattle.emc_base.proofs.Lists.{at_once}
use Rattle.case_laws.specs.candidates.Rows.{shown_rows}
use Rattle.query_cases.specs.declared.case_reading.reading.Reading.{Reading}
use Rattle.region_states.specs.region_basis.BasisOf.{basis_of}
use Rattle.case_laws.specs.declared.region_cases.case.Case.{Case}
use Rattle.query_views.specs.First.{IsPassed, MeetsBy}
use Rattle.query_views.proofs.views.SetReader.first_among.Goals as goal

pub loop-place-preserved : goal.loop-place-preserved
loop-place-preserved c =
    let basis = basis_of c.args.parts.now in
    let rows = shown_rows c.args.rows.now in
    let cases = c.args.cases.now in
    let readings = c.args.self.now.readings in
    let i = c.loop-place.place-index in
    let place : ℕ = get_or c.args.places.now i 0 in
    let tried : Case = c.index-cases-place.result in
    let by : Reading = c.at.result.now in
    All-more (IsPassed basis rows cases readings) c.args.places.now i 0 c.loop-place-test.true c.loop-place.invariant (λ case reading here there meets.
    (let same_case : case ≡ tried = sym (c.index-cases-place.is ∙ get_or_from_slice_get cases place case tried here) in
    let same_reading : reading ≡ by = at_once readings place reading by there c.at.ensures in
    let met : MeetsBy basis rows tried by =
    subst (λ (one : Reading). MeetsBy basis rows tried one) same_reading (subst (λ (one : Case). MeetsBy basis rows one reading) same_case meets) in
    true≢false (sym (c.meets.ensures.1 met) ∙ c.if-meets.false)))

pub returns : goal.returns
returns c =
    let Passed = IsPassed (basis_of c.args.parts.now) (shown_rows c.args.rows.now) c.args.cases.now c.args.self.now.readings in
    subst (All Passed) (take_all c.loop-place.place-index c.args.places.now c.loop-place-test.false) c.loop-place.invariant
