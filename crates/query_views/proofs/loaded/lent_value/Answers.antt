use Rattle.std.proofs.Common.{◌≡◌, ◌==◌, List, Some, None, position, slice_get, unwrap_or, ap, sym, ◌∙◌}
use Rattle.case_laws.specs.candidates.Rows.{shown_rows}
use Rattle.case_laws.specs.declared.candidates.placed.PlacedRow.{PlacedRow}
use Rattle.query_cases.specs.case_reading.Sources.{read_values}
use Rattle.round_trip.specs.Words.{Null, PropId, props_of}
use Rattle.query_views.proofs.Beside.{none_there, value_there}
use Rattle.query_views.proofs.loaded.lent_value.Goals as goal

pub returns-in-Some : goal.returns-in-Some
returns-in-Some c =
    let one = c.args.one.now in
    let p = c.args.prop in
    let props = props_of c.args.model.now one.met.case.now.region.ty in
    let values = read_values one.met.reading.now (shown_rows one.rows.items) in
    let found : position (λ (other : PropId). other.index == p.index) props ≡ Some c.in-Some.place =
    ap (position (λ (other : PropId). other.index == p.index)) (sym c.props_of-props.ensures) ∙ sym c.place_of.ensures ∙ c.in-Some.is in
    c.value.ensures ∙ ap (λ (list : List PlacedRow). unwrap_or (slice_get (read_values one.met.reading.now (shown_rows list)) c.in-Some.place) Null) c.as_slice.ensures.value
    ∙ value_there p props values c.in-Some.place found

pub returns-in-None : goal.returns-in-None
returns-in-None c =
    let one = c.args.one.now in
    let p = c.args.prop in
    let props = props_of c.args.model.now one.met.case.now.region.ty in
    let values = read_values one.met.reading.now (shown_rows one.rows.items) in
    let found : position (λ (other : PropId). other.index == p.index) props ≡ None =
    ap (position (λ (other : PropId). other.index == p.index)) (sym c.props_of-props.ensures) ∙ sym c.place_of.ensures ∙ c.in-None.is in
    none_there p props values found
