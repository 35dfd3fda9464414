use Rattle.std.proofs.Common.{List, get_or, length, ◌≤◌, map, ap, subst, ◌∙◌}
use Rattle.std.proofs.lemmas.List.{take_all}
use Rattle.std.proofs.lemmas.Option.{slice_get-get_or}
use Rattle.emc_base.specs.Lists.{At}
use Rattle.emc_base.proofs.Turns.{mapped_more}
use Rattle.case_laws.specs.candidates.Rows.{shown_rows}
use Rattle.query_cases.specs.declared.case_reading.reading.CellPlace.{CellPlace}
use Rattle.query_cases.specs.case_reading.Sources.{cell_at}
use Rattle.query_cases.proofs.case_reading.reading.LinkReading.hosted.Goals as goal

pub loop-place-preserved : goal.loop-place-preserved
loop-place-preserved c =
    let i = c.loop-place.place-index in
    let places : List CellPlace = c.args.self.now.parts in
    let items = c.as_slice-place-items.result.now in
    let none : CellPlace = record { row = 0; col = 0 } in
    let place : CellPlace = get_or items i none in
    let here : At places i place = subst (λ (list : List CellPlace). At list i place) c.as_slice-place-items.ensures.items (slice_get-get_or items i none c.loop-place-test.true) in
    c.in_ok-push.ensures.ok
    ∙ mapped_more (cell_at (shown_rows c.args.rows.now)) places i place c.loop-place.partner c.in_ok-copied_at.field-0 c.loop-place.invariant here c.in_ok-copied_at.ensures

pub returns : goal.returns
returns c =
    let places : List CellPlace = c.args.self.now.parts in
    let i = c.loop-place.place-index in
    let past : length places ≤ i = subst (λ (list : List CellPlace). length list ≤ i) c.as_slice-place-items.ensures.items c.loop-place-test.false in
    λ k. record { assoc = c.args.self.now.assoc; partner = (c.loop-place.invariant ∙ ap (map (cell_at (shown_rows c.args.rows.now))) (take_all i places past)) k }
