use Rattle.std.proofs.Common.{ap, ◌∙◌, refl}
use Rattle.std.proofs.lemmas.List.{take_all}
use Rattle.std.proofs.lemmas.Option.{slice_get_read}
use Rattle.indexmap.specs.IndexMap.{get_by_text}
use Rattle.groupings.specs.name_places.GivenNames.{first_place}
use Rattle.groupings.proofs.name_places.FirstPlaces.{noted_more}
use Rattle.groupings.proofs.name_places.places.first_places.Goals as goal

pub loop-place-preserved : goal.loop-place-preserved
loop-place-preserved g c =
    noted_more g.T.Named.name_in c.args.items.now c.loop-place.place c.index-items-place.result c.name.result.now
    (get_by_text c.loop-place.by_name) (get_by_text c.note_place.new.by_name)
    (slice_get_read _ _ c.loop-place.place _ refl c.loop-place-test.true c.index-items-place.is) c.name.ensures
    c.loop-place.invariant c.in_ok-note_place.ensures

pub returns : goal.returns
returns g c = λ k name.
    (c.loop-place.invariant name
    ∙ ap (λ items. first_place g.T.Named.name_in items name) (take_all c.loop-place.place c.args.items.now c.loop-place-test.false)) k
