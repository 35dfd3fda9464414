use Rattle.std.proofs.Common.{List, All, IsSome, take, refl, sym, subst, ◌∙◌}
use Rattle.std.proofs.lemmas.List.{take_all}
use Rattle.std.proofs.lemmas.List.Elements.{All-push}
use Rattle.std.proofs.lemmas.Option.{slice_get_read}
use Rattle.emc_base.proofs.Loops.{take_item}
use Rattle.groupings.specs.name_places.PlacesIn.{place_in}
use Rattle.groupings.proofs.name_places.once.are_known.Goals as goal

pub loop-item-preserved : goal.loop-item-preserved
loop-item-preserved g c =
    let P : g.row.T.Denot → Type 0 = λ item. IsSome (place_in c.args.places.now (g.T.Named.name_in item)) in
    let Q : List g.row.T.Denot → Type 0 = All P in
    let here = slice_get_read _ _ c.loop-item.item-index _ refl c.loop-item-test.true c.item-item.is in
    subst Q (sym (take_item c.args.items.now c.loop-item.item-index c.item-item.result here))
    (All-push P (take c.loop-item.item-index c.args.items.now) c.item-item.result c.loop-item.invariant (sym c.is_known.ensures ∙ c.if-not-is_known.false))

pub returns : goal.returns
returns g c =
    let P : g.row.T.Denot → Type 0 = λ item. IsSome (place_in c.args.places.now (g.T.Named.name_in item)) in
    let Q : List g.row.T.Denot → Type 0 = All P in
    (λ _. subst Q (take_all c.loop-item.item-index c.args.items.now c.loop-item-test.false) c.loop-item.invariant, λ _. refl)
