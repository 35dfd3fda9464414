use Rattle.std.proofs.Common.{◌+◌, ◌≤◌, List, length, refl, sym, subst}
use Rattle.std.proofs.lemmas.Option.{slice_get_read}
use Rattle.std.proofs.lemmas.Result.{IfOk-weaker}
use Rattle.emc_base.specs.Lists.{At}
use Rattle.round_trip.specs.Words.{LinkFragment}
use Rattle.round_trip.specs.Between.{schema_of}
use Rattle.table_owners.specs.declared.places.LinkPlace.{LinkPlace}
use Rattle.table_owners.specs.Places.{IsLinkPlace, TellPlaces, maps_to}
use Rattle.table_owners.specs.Puts.{Puts}
use Rattle.table_owners.proofs.ownership.Placing.{tell_places}
use Rattle.table_owners.proofs.lists.PutItems.{all_put, none_put, one_put}
use Rattle.table_owners.proofs.places.places_of.Goals as goal

pub loop-number-init : goal.loop-number-init
loop-number-init c = none_put maps_to (IsLinkPlace (schema_of c.args.model.now c.args.store.now c.args.mapping.now)) c.args.mapping.now.links c.in_ok-places.places.items

pub loop-number-preserved : goal.loop-number-preserved
loop-number-preserved c =
    let links = c.args.mapping.now.links in
    let n = c.loop-number.number in
    let fragment = c.fragment-item.result in
    let IsBy = IsLinkPlace (schema_of c.args.model.now c.args.store.now c.args.mapping.now) in
    let P : List LinkFragment → Type 0 = λ items. At items n fragment in
    let here : At links n fragment = subst P c.as_slice-fragment-items.ensures.items (slice_get_read _ _ n _ refl c.loop-number-test.true c.fragment-item.is) in
    let Q : List LinkPlace → Type 0 = λ items. Puts maps_to IsBy links (n + 1) c.in_ok-places.places.items items in
    subst Q (sym c.put.ensures)
    (one_put maps_to IsBy links n fragment here c.place_by-place.result (c.standing_of.result, c.standing_of.ensures c.args.model.now c.args.mapping.now, c.place_by-place.ensures)
    c.in_ok-places.places.items c.loop-number.places.items c.loop-number.invariant)

pub returns : goal.returns
returns c = λ sound.
    let schema = schema_of c.args.model.now c.args.store.now c.args.mapping.now in
    let links = c.args.mapping.now.links in
    let n = c.loop-number.number in
    let P : List LinkFragment → Type 0 = λ items. length items ≤ n in
    let all = all_put maps_to (IsLinkPlace schema) links n c.in_ok-places.places.items c.loop-number.places.items
    (subst P c.as_slice-fragment-items.ensures.items c.loop-number-test.false) c.loop-number.invariant in
    IfOk-weaker c.from_vec.result _ _
    (λ places is. subst (TellPlaces schema) (sym is) (tell_places schema sound c.in_ok-places.places.items c.loop-number.places.items c.in_ok-places.ensures all))
    c.from_vec.ensures
