use Rattle.std.proofs.Common.{◌≢◌, ◌==◌, List, [], Option, length, true≢false, ap, sym, subst, ◌∙◌}
use Rattle.cells.specs.Cells.{is_free_in}
use Rattle.case_laws.specs.candidates.Rows.{AreRowsAt, shown_row, shown_rows}
use Rattle.case_laws.specs.declared.candidates.placed.PlacedRow.{PlacedRow}
use Rattle.region_states.specs.region_basis.BasisOf.{basis_of}
use Rattle.case_laws.specs.region_cases.Meets.{AreLinksOf, IsEntityOf}
use Rattle.query_views.specs.First.{FindsFirst, cases_in, readings_in}
use Rattle.query_views.specs.declared.views.Met.{Met}
use Rattle.query_views.proofs.Viewed.{has_rows, is_met_by, lack_case, lacks_rows, none_by_length, some_shown}
use Rattle.query_views.proofs.LentAt.{cells_decide, links_told}
use Rattle.query_views.proofs.views.QueryViews.entity_at.Goals as goal

pub returns-then-is_empty : goal.returns-then-is_empty
returns-then-is_empty c = λ has.
    (let parts = c.args.parts.now in
    let empty = none_by_length c.as_slice-rows.result.now (sym c.if-is_empty.ensures) in
    lacks_rows (basis_of parts) (is_free_in parts.cells.now) c.args.tables.now c.args.set c.args.key.now (shown_rows c.in_ok-rows.rows.items) c.in_ok-rows.ensures has
    (ap shown_rows (sym c.as_slice-rows.ensures.value ∙ empty)))

pub returns-in-Some : goal.returns-in-Some
returns-in-Some c =
    let parts = c.args.parts.now in
    let basis = basis_of parts in
    let is_free = is_free_in parts.cells.now in
    let views = c.args.self.now in
    let s = c.args.set in
    let key = c.args.key.now in
    let placed = c.as_slice-rows.result.now in
    let rows = shown_rows placed in
    let met = c.in-Some.met in
    let is = c.parts_are_a_basis.ensures.basis parts c.requires.parts in
    let Here : List PlacedRow → Type 0 = λ list. AreRowsAt basis.schema c.args.tables.now s key (shown_rows list) in
    let here : Here placed = subst Here (sym c.as_slice-rows.ensures.value) c.in_ok-rows.ensures in
    let Found : Option Met → Type 0 = λ found. FindsFirst basis rows (cases_in views s) (readings_in views s) found in
    let some : placed ≢ [] = λ empty. true≢false (sym (ap (λ (list : List PlacedRow). length list == 0) empty) ∙ sym c.is_empty.ensures ∙ c.if-is_empty.false) in
    let decides = cells_decide parts c.requires.parts in
    let by = is_met_by basis is_free views c.requires.views s c.requires.set c.args.tables.now key rows
    (λ case listed reading read. c.met_cases_are_read.ensures.met basis is is_free s case listed c.args.tables.now key rows here reading read)
    met (subst Found c.in-Some.is c.in_ok-met.ensures) in
    let case = met.case.now in (
      has_rows basis is_free c.args.tables.now s key rows here (some_shown shown_row placed some),
      record {
        case = case;
        first_met = by.first_met;
        entity = subst (IsEntityOf basis c.args.tables.now key case) (sym c.in_ok-entity-in-Some.ensures)
            (c.met_cases_are_read.ensures.told basis is is_free s case by.listed c.args.tables.now key rows here met.reading.now by.read by.first_met.meets);
        links = subst (AreLinksOf basis c.args.tables.now key case) (sym c.in_ok-links-in-Some.ensures)
            (links_told basis is c.requires.parts.limits c.requires.round_trips is_free decides s c.args.tables.now key rows here case by.listed by.first_met.meets met.reading.now by.read);
      },
    )

pub returns : goal.returns
returns c =
    let parts = c.args.parts.now in
    let basis = basis_of parts in
    let is_free = is_free_in parts.cells.now in
    let views = c.args.self.now in
    let s = c.args.set in
    let key = c.args.key.now in
    let placed = c.as_slice-rows.result.now in
    let rows = shown_rows placed in
    let is = c.parts_are_a_basis.ensures.basis parts c.requires.parts in
    let Here : List PlacedRow → Type 0 = λ list. AreRowsAt basis.schema c.args.tables.now s key (shown_rows list) in
    let here : Here placed = subst Here (sym c.as_slice-rows.ensures.value) c.in_ok-rows.ensures in
    let Found : Option Met → Type 0 = λ found. FindsFirst basis rows (cases_in views s) (readings_in views s) found in
    let some : placed ≢ [] = λ empty. true≢false (sym (ap (λ (list : List PlacedRow). length list == 0) empty) ∙ sym c.is_empty.ensures ∙ c.if-is_empty.false) in
    lack_case basis is_free views c.requires.views s c.requires.set c.args.tables.now key rows
    (λ case listed reading read. c.met_cases_are_read.ensures.met basis is is_free s case listed c.args.tables.now key rows here reading read)
    (subst Found c.in-None.is c.in_ok-met.ensures) (has_rows basis is_free c.args.tables.now s key rows here (some_shown shown_row placed some))
