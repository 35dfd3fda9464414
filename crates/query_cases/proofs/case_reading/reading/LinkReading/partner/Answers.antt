use Rattle.std.proofs.Common.{List, get_or, length, ◌≤◌, map, ap, subst, ◌∙◌}
use Rattle.std.specs.Borrow.{Bor}
use Rattle.std.proofs.lemmas.List.{take_all}
use Rattle.std.proofs.lemmas.List.Elements.{All-contains}
use Rattle.std.proofs.lemmas.Option.{slice_get-get_or}
use Rattle.emc_base.specs.Lists.{At}
use Rattle.emc_base.proofs.Mapped.{contains_at}
use Rattle.case_laws.specs.candidates.Rows.{shown_rows}
use Rattle.query_cases.specs.declared.case_reading.reading.CellPlace.{CellPlace}
use Rattle.round_trip.specs.Words.{Value}
use Rattle.query_cases.specs.case_reading.Links.{HasPlace}
use Rattle.query_cases.specs.case_reading.Sources.{cell_at}
use Rattle.query_cases.proofs.case_reading.Zips.{lent_more}
use Rattle.query_cases.proofs.case_reading.reading.LinkReading.partner.Goals as goal

pub value_at-requires : goal.value_at-requires
value_at-requires c =
    let i = c.loop-place.place-index in
    let places : List CellPlace = c.args.self.now.parts in
    let items = c.as_slice-place-items.result.now in
    let none : CellPlace = record { row = 0; col = 0 } in
    let place : CellPlace = get_or items i none in
    let here : At places i place = subst (λ (list : List CellPlace). At list i place) c.as_slice-place-items.ensures.items (slice_get-get_or items i none c.loop-place-test.true) in
    All-contains (HasPlace (shown_rows c.args.rows.now)) places place c.requires (contains_at places i place here)

pub loop-place-preserved : goal.loop-place-preserved
loop-place-preserved c =
    let i = c.loop-place.place-index in
    let places : List CellPlace = c.args.self.now.parts in
    let items = c.as_slice-place-items.result.now in
    let none : CellPlace = record { row = 0; col = 0 } in
    let place : CellPlace = get_or items i none in
    let here : At places i place = subst (λ (list : List CellPlace). At list i place) c.as_slice-place-items.ensures.items (slice_get-get_or items i none c.loop-place-test.true) in
    lent_more (λ (value : Bor Value). value.now) (cell_at (shown_rows c.args.rows.now)) c.loop-place.partner.items c.value_at.result _ places i place
    c.in_ok-push.ensures.items c.loop-place.invariant here c.value_at.ensures

pub returns : goal.returns
returns c =
    let places : List CellPlace = c.args.self.now.parts in
    let i = c.loop-place.place-index in
    let past : length places ≤ i = subst (λ (list : List CellPlace). length list ≤ i) c.as_slice-place-items.ensures.items c.loop-place-test.false in
    c.loop-place.invariant ∙ ap (map (cell_at (shown_rows c.args.rows.now))) (take_all i places past)
