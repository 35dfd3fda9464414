use Rattle.std.proofs.Common.{◌∷◌, ◌++◌, [], Option, None, Some, append-nil, refl, sym, ap, ◌∙◌}
use Rattle.std.specs.BTreeMap.{get}
use Rattle.std.proofs.lemmas.Option.{slice_get_read}
use Rattle.emc_base.specs.Lists.{At}
use Rattle.round_trip.specs.Words.{Entity, key_of}
use Rattle.entity_changes.specs.Spots.{Spot, key_spot, spot_cmp}
use Rattle.entity_changes.specs.making.Fates.{survivor}
use Rattle.entity_changes.proofs.Kept.{found_behind}
use Rattle.entity_changes.proofs.making.lists.add_entities.Goals as goal
use Rattle.entity_changes.proofs.making.lists.add_entities.Goals.{in-Some+in_ok-copied_entity+in_ok-push, in_default}

pub loop-entity-preserved : goal.loop-entity-preserved
loop-entity-preserved c =
    let all = c.args.entities.now in
    let i = c.loop-entity.entity-index in
    let item : Entity = c.entity-item.result in
    let made = c.loop-entity.items in
    let fates = c.args.fates.now.by_spot in
    let becomes : Entity → Option Entity = λ x. survivor (get spot_cmp fates (key_spot c.args.set (key_of c.args.model.now x))) x in
    let here : At all i item = slice_get_read all _ i item refl c.loop-entity-test.true c.entity-item.is in
    elim c.match-survivor.branch [
      | in-Some+in_ok-copied_entity+in_ok-push w ↦
          w.items-is ∙ w.in_ok-push.ensures.ok ∙ ap (λ copy. made ++ copy ∷ []) w.in_ok-copied_entity.ensures
          ∙ found_behind becomes all i item c.args.items.now made (Some w.in-Some.kept.now) c.loop-entity.invariant here
          (w.in-Some.ensures ∙ ap (λ (p : Spot). survivor (get spot_cmp fates p) item) c.in_ok-spot.ensures)
      | in_default w ↦
          w.items-is ∙ sym (append-nil made)
          ∙ found_behind becomes all i item c.args.items.now made None c.loop-entity.invariant here
          (w.in_default.ensures ∙ ap (λ (p : Spot). survivor (get spot_cmp fates p) item) c.in_ok-spot.ensures)
    ]
