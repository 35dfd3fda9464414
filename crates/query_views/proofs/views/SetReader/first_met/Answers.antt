use Rattle.std.proofs.Common.{◌<◌, ℕ, List, All, AllPairs, length, sym, subst}
use Rattle.emc_base.proofs.facts.Zipped.{zip_long}
use Rattle.case_laws.specs.candidates.Rows.{shown_rows}
use Rattle.query_cases.specs.case_reading.Reading.{IsReadingOf}
use Rattle.region_states.specs.region_basis.BasisOf.{basis_of}
use Rattle.query_views.specs.First.{FindsAmong}
use Rattle.query_views.proofs.Firsts.{finds_first}
use Rattle.query_views.proofs.views.SetReader.first_met.Goals as goal

pub first_among-requires-clause-size : goal.first_among-requires-clause-size
first_among-requires-clause-size c = sym (zip_long (IsReadingOf (basis_of c.args.parts.now)) c.args.cases.now c.args.self.now.readings c.requires.reader.readings)

pub first_among-requires-clause-within : goal.first_among-requires-clause-within
first_among-requires-clause-within c =
    let P : List ℕ → Type 0 = λ places. All (λ i. i < length c.args.cases.now) places in
    subst P (sym c.in_ok-places.ensures) (c.requires.reader.index.within (shown_rows c.args.rows.now))

pub first_among-requires-clause-rising : goal.first_among-requires-clause-rising
first_among-requires-clause-rising c =
    let P : List ℕ → Type 0 = λ places. AllPairs (λ i j. i < j) places in
    subst P (sym c.in_ok-places.ensures) (c.requires.reader.index.rising (shown_rows c.args.rows.now))

pub returns : goal.returns
returns c =
    let basis = basis_of c.args.parts.now in
    let rows = shown_rows c.args.rows.now in
    let cases = c.args.cases.now in
    let reader = c.args.self.now in
    let P : List ℕ → Type 0 = λ places. FindsAmong basis rows cases reader.readings places c.first_among.result in
    finds_first basis rows cases reader.readings reader.index c.requires.reader.index c.first_among.result (subst P c.in_ok-places.ensures c.first_among.ensures)
