use Rattle.std.proofs.Common.{List, get_or, subst}
use Rattle.std.specs.List.{AllZip}
use Rattle.std.proofs.lemmas.List.{take_all}
use Rattle.std.proofs.lemmas.Option.{slice_get-get_or}
use Rattle.round_trip.specs.Words.{At, PropId}
use Rattle.query_cases.specs.case_reading.Links.{IsPartPlace}
use Rattle.query_cases.proofs.case_reading.Zips.{zip_more}
use Rattle.query_cases.proofs.case_reading.links.part_places.Goals as goal

pub loop-property-preserved : goal.loop-property-preserved
loop-property-preserved c =
    let key = c.args.key.now in
    let i = c.loop-property.property-index in
    let none : PropId = record { index = 0 } in
    let p : PropId = get_or key i none in
    let here : At key i p = slice_get-get_or key i none c.loop-property-test.true in
    zip_more (IsPartPlace c.args.case.now c.args.assoc) key i p c.loop-property.places c.part_place.result c.push.new.self here c.loop-property.invariant
    c.part_place.ensures c.in_ok-push.ensures.ok

pub returns : goal.returns
returns c =
    let key = c.args.key.now in
    let i = c.loop-property.property-index in
    subst (λ (list : List PropId). AllZip (IsPartPlace c.args.case.now c.args.assoc) list c.loop-property.places) (take_all i key c.loop-property-test.false)
    c.loop-property.invariant
