use Rattle.std.proofs.Common.{◌≤◌, ◌<◌, List, length, option_map, refl, sym, ap, subst, ◌∙◌}
use Rattle.std.proofs.lemmas.Bool.{both_ways}
use Rattle.std.proofs.lemmas.List.{length-map}
use Rattle.std.proofs.lemmas.Option.{slice_get-map, slice_get_read}
use Rattle.emc_base.proofs.Lists.{at_once}
use Rattle.emc_base.proofs.facts.Zipped.{zip_long}
use Rattle.region_states.specs.region_basis.BasisOf.{basis_of}
use Rattle.round_trip.specs.Words.{At}
use Rattle.case_laws.specs.declared.region_cases.case.CaseRow.{CaseRow}
use Rattle.case_laws.specs.candidates.Rows.{shown_row, shown_rows}
use Rattle.query_cases.proofs.case_reading.Turns.{MayRow, PairSo, one_below, pairs_so}
use Rattle.query_cases.proofs.case_reading.Zips.{zip_at}
use Rattle.query_cases.proofs.case_reading.meeting.may_meet.Goals as goal

pub returns-then-told-rows : goal.returns-then-told-rows
returns-then-told-rows c = (
  λ never. absurd cc,
  λ may.
      let May = MayRow (basis_of c.args.parts.now) c.args.case.now.region in
      let rows = c.args.rows.now in
      absurd (c.if-told-rows.true (ap length c.as_slice-told.ensures.items ∙ zip_long May c.args.case.now.rows (shown_rows rows) may ∙ length-map rows shown_row)),
)

pub returns-then-not-may_meet_row : goal.returns-then-not-may_meet_row
returns-then-not-may_meet_row c = (
  λ never. absurd cc,
  λ may.
      let told = c.args.case.now.rows in
      let rows = c.args.rows.now in
      let i = c.loop-i.i in
      let May = MayRow (basis_of c.args.parts.now) c.args.case.now.region in
      let at_told : At told i c.index-told-i.result = subst (λ (list : List CaseRow). At list i c.index-told-i.result) c.as_slice-told.ensures.items
      (slice_get_read _ _ i _ refl c.loop-i-test.true c.index-told-i.is) in
      let within = subst (λ n. i < n) c.if-told-rows.false c.loop-i-test.true in
      let at_row : At rows i c.index-rows-i.result = slice_get_read rows (length rows) i c.index-rows-i.result refl within c.index-rows-i.is in
      let at_shown : At (shown_rows rows) i (shown_row c.index-rows-i.result) = slice_get-map shown_row rows i ∙ ap (option_map shown_row) at_row in
      absurd (both_ways c.may_meet_row.result c.if-not-may_meet_row.true
      (c.may_meet_row.ensures.1 (zip_at May told (shown_rows rows) may i c.index-told-i.result (shown_row c.index-rows-i.result) at_told at_shown))),
)

pub loop-i-preserved : goal.loop-i-preserved
loop-i-preserved c =
    let told = c.args.case.now.rows in
    let rows = c.args.rows.now in
    let i = c.loop-i.i in
    let May = MayRow (basis_of c.args.parts.now) c.args.case.now.region in
    let at_told : At told i c.index-told-i.result = subst (λ (list : List CaseRow). At list i c.index-told-i.result) c.as_slice-told.ensures.items
    (slice_get_read _ _ i _ refl c.loop-i-test.true c.index-told-i.is) in
    let within = subst (λ n. i < n) c.if-told-rows.false c.loop-i-test.true in
    let at_row : At rows i c.index-rows-i.result = slice_get_read rows (length rows) i c.index-rows-i.result refl within c.index-rows-i.is in
    let at_shown : At (shown_rows rows) i (shown_row c.index-rows-i.result) = slice_get-map shown_row rows i ∙ ap (option_map shown_row) at_row in
    one_below (PairSo May told (shown_rows rows)) i c.loop-i.invariant (λ row placed at_one at_other.
    subst (λ one. May one placed) (at_once told i c.index-told-i.result row at_told at_one)
    (subst (May c.index-told-i.result) (at_once (shown_rows rows) i (shown_row c.index-rows-i.result) placed at_shown at_other)
    (c.may_meet_row.ensures.0 c.if-not-may_meet_row.false)))

pub returns : goal.returns
returns c = (
  λ is.
      let told = c.args.case.now.rows in
      let rows = c.args.rows.now in
      let May = MayRow (basis_of c.args.parts.now) c.args.case.now.region in
      let end : length told ≤ c.loop-i.i = subst (λ (list : List CaseRow). length list ≤ c.loop-i.i) c.as_slice-told.ensures.items c.loop-i-test.false in
      let long = ap length (sym c.as_slice-told.ensures.items) ∙ c.if-told-rows.false ∙ sym (length-map rows shown_row) in
      pairs_so May told (shown_rows rows) c.loop-i.i long end c.loop-i.invariant,
  λ may. refl,
)
