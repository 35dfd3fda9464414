use Rattle.std.proofs.Common.{List, Option, Some, None, refl, subst}
use Rattle.std.specs.Borrow.{Bor}
use Rattle.cells.specs.Cells.{is_free_in}
use Rattle.case_laws.specs.candidates.Rows.{shown_row, shown_rows}
use Rattle.case_laws.specs.declared.candidates.placed.PlacedRow.{PlacedRow}
use Rattle.region_states.specs.region_basis.BasisOf.{basis_of}
use Rattle.round_trip.specs.Words.{Value}
use Rattle.keyed_rows.specs.row_groups.Shown.{shown_cells}
use Rattle.query_views.specs.Answers.{TellsKey}
use Rattle.query_views.specs.First.{FindsFirst, cases_in, readings_in}
use Rattle.query_views.specs.Lent.{shown_values}
use Rattle.query_views.specs.declared.views.Met.{Met}
use Rattle.query_views.proofs.LentAt.{cells_decide, links_are, places_are}
use Rattle.query_views.proofs.Viewed.{has_rows, is_met_by, lack_case, some_shown}
use Rattle.query_views.proofs.lending.lent_entity.Goals as goal

pub returns-in-Some : goal.returns-in-Some
returns-in-Some c = λ tables legal here.
    (let parts = c.args.parts.now in
    let basis = basis_of parts in
    let is_free = is_free_in parts.cells.now in
    let views = c.args.views.now in
    let s = c.args.set in
    let key = shown_cells c.args.group.key in
    let placed = c.args.group.items.items in
    let rows = shown_rows placed in
    let met = c.in-Some.met in
    let is = c.parts_are_a_basis.ensures.basis parts c.requires.parts in
    let decides = cells_decide parts c.requires.parts in
    let Found : List PlacedRow → Option Met → Type 0 = λ list found. FindsFirst basis (shown_rows list) (cases_in views s) (readings_in views s) found in
    let found : Found placed (Some met) = subst (λ list. Found list (Some met)) c.as_slice.ensures.value (subst (Found c.as_slice.result.now) c.in-Some.is c.in_ok-met.ensures) in
    let by = is_met_by basis is_free views c.requires.views s c.requires.set tables key rows
    (λ case listed reading read. c.met_cases_are_read.ensures.met basis is is_free s case listed tables key rows here reading read) met found in
    record {
      at_key = refl;
      first_met = by.first_met;
      told = c.met_cases_are_read.ensures.told basis is is_free s met.case.now by.listed tables key rows here met.reading.now by.read by.first_met.meets;
      links = links_are basis is c.requires.parts.limits c.requires.round_trips is_free decides s tables key rows here met.case.now by.listed by.first_met.meets met.reading.now by.read legal;
      places = places_are basis is c.requires.parts.limits c.requires.round_trips is_free decides s tables key rows here met.case.now by.listed by.first_met.meets met.reading.now by.read
          legal;
    })

pub returns : goal.returns
returns c = λ tables legal.
    (let parts = c.args.parts.now in
    let basis = basis_of parts in
    let is_free = is_free_in parts.cells.now in
    let views = c.args.views.now in
    let s = c.args.set in
    let key = shown_cells c.args.group.key in
    let placed = c.args.group.items.items in
    let rows = shown_rows placed in
    let is = c.parts_are_a_basis.ensures.basis parts c.requires.parts in
    let Told : List (Bor Value) → Type 0 = λ list. TellsKey parts.model.now s (shown_values list) c.in_ok-place-in-None.place in
    let Found : List PlacedRow → Option Met → Type 0 = λ list found. FindsFirst basis (shown_rows list) (cases_in views s) (readings_in views s) found in
    let found : Found placed None = subst (λ list. Found list None) c.as_slice.ensures.value (subst (Found c.as_slice.result.now) c.in-None.is c.in_ok-met.ensures) in (
      subst Told c.as_slice-in-None.ensures.value c.in_ok-place-in-None.ensures,
      λ here some. lack_case basis is_free views c.requires.views s c.requires.set tables key rows
          (λ case listed reading read. c.met_cases_are_read.ensures.met basis is is_free s case listed tables key rows here reading read)
          found (has_rows basis is_free tables s key rows here (some_shown shown_row placed some)),
    ))
