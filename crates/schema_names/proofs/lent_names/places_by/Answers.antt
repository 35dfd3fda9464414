use Rattle.std.proofs.Common.{◌≡◌, ◌∙◌, List, ℕ, map, refl, ap}
use Rattle.std.specs.Borrow.{Bor}
use Rattle.std.proofs.lemmas.List.{take_all}
use Rattle.std.proofs.lemmas.Option.{slice_get_read}
use Rattle.std.proofs.lemmas.Result.{IfOk-weaker}
use Rattle.groupings.specs.name_places.GivenNames.{first_place}
use Rattle.groupings.specs.name_places.PlacesIn.{place_in}
use Rattle.schema_names.specs.LentNames.{ArePlacesBy}
use Rattle.schema_names.proofs.Listed.{first_listed, made_more}
use Rattle.schema_names.proofs.lent_names.places_by.Goals as goal

pub loop-item-init : goal.loop-item-init
loop-item-init g c = ((λ name_in lends. ap (map (λ given. given.now)) c.new-names.ensures.items), c.requires)

pub loop-item-preserved : goal.loop-item-preserved
loop-item-preserved g c = (
  λ name_in lends.
      let here = slice_get_read _ _ c.loop-item.item-index _ refl c.loop-item-test.true c.item-item.is in
      let lent = lends _ c.name_of.result c.name_of.ensures in
      ap (map (λ given. given.now)) c.in_ok-push.ensures.items
      ∙ made_more (λ given. given.now) name_in c.loop-item.names.items c.args.items.now c.loop-item.item-index c.name_of.result c.item-item.result here (c.loop-item.invariant.0 name_in lends) lent,
  c.loop-item.invariant.1,
)

pub returns : goal.returns
returns g c = IfOk-weaker c.first_places.result
    (λ places. place_in places ≡ first_place (λ given. given.now) c.as_slice.result.now)
    (ArePlacesBy (goal.F-post g c.args.name_of) c.args.items.now)
    (λ places is name_in lends.
    is
    ∙ ap (first_place (λ (given : Bor (List ℕ)). given.now)) c.as_slice.ensures.value
    ∙ first_listed name_in c.args.items.now c.loop-item.names.items
    (c.loop-item.invariant.0 name_in lends ∙ ap (map name_in) (take_all c.loop-item.item-index c.args.items.now c.loop-item-test.false)))
    c.first_places.ensures
