use Rattle.std.proofs.Common.{◌≤◌, ◌≡◌, List, length, position, Some, None, inl, inr, refl, sym, ap, subst, ◌∙◌}
use Rattle.std.proofs.lemmas.Option.{slice_get_read}
use Rattle.round_trip.specs.Words.{At}
use Rattle.case_laws.specs.declared.region_cases.case.CaseCell.{CaseCell}
use Rattle.case_laws.specs.declared.region_cases.case.CaseRow.{CaseRow}
use Rattle.query_cases.specs.case_reading.Links.{shows_part}
use Rattle.query_cases.proofs.case_reading.Parts.{LacksPart, none_of, none_shows, part_found, row_lacks}
use Rattle.query_cases.proofs.case_reading.Turns.{one_below}
use Rattle.query_cases.proofs.case_reading.links.part_place.Goals as goal

pub returns-in-Some : goal.returns-in-Some
returns-in-Some c =
    let rows = c.args.case.now.rows in
    let i = c.loop-row.row in
    let told : CaseRow = c.index-rows-row.result in
    let here : At rows i told = subst (λ (list : List CaseRow). At list i told) c.as_slice-rows.ensures.items
    (slice_get_read _ _ i _ refl c.loop-row-test.true c.index-rows-row.is) in
    let found : position (shows_part c.args.assoc c.args.property) told.cells ≡ Some c.in-Some.col =
    subst (λ (cells : List CaseCell). position (shows_part c.args.assoc c.args.property) cells ≡ Some c.in-Some.col) (c.as_slice.ensures.items ∙ ap (λ (row : CaseRow). row.cells) (sym c.index-rows-row.is))
    (sym c.part_column.ensures ∙ c.in-Some.is) in
    inl (record { row = told; at_row = here; at_cell = part_found c.args.assoc c.args.property told.cells c.in-Some.col found })

pub loop-row-preserved : goal.loop-row-preserved
loop-row-preserved c =
    let rows = c.args.case.now.rows in
    let i = c.loop-row.row in
    let told : CaseRow = c.index-rows-row.result in
    let here : At rows i told = subst (λ (list : List CaseRow). At list i told) c.as_slice-rows.ensures.items
    (slice_get_read _ _ i _ refl c.loop-row-test.true c.index-rows-row.is) in
    let none : position (shows_part c.args.assoc c.args.property) told.cells ≡ None =
    subst (λ (cells : List CaseCell). position (shows_part c.args.assoc c.args.property) cells ≡ None) (c.as_slice.ensures.items ∙ ap (λ (row : CaseRow). row.cells) (sym c.index-rows-row.is))
    (sym c.part_column.ensures ∙ none_of c.part_column.result c.in_default.not-Some) in
    one_below (LacksPart rows c.args.assoc c.args.property) i c.loop-row.invariant (row_lacks rows c.args.assoc c.args.property i told here none)

pub returns : goal.returns
returns c =
    let rows = c.args.case.now.rows in
    let i = c.loop-row.row in
    let past : length rows ≤ i = subst (λ (list : List CaseRow). length list ≤ i) c.as_slice-rows.ensures.items c.loop-row-test.false in
    inr (none_shows c.args.case.now c.args.assoc c.args.property i past c.loop-row.invariant)
