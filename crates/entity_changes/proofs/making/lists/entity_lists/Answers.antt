use Rattle.std.proofs.Common.{◌≡◌, ◌++◌, List, map, reverse, ap, ◌∙◌}
use Rattle.emc_base.proofs.Loops.{take-enumerated}
use Rattle.round_trip.specs.Words.{Entity, key_of}
use Rattle.entity_changes.specs.Spots.{key_spot}
use Rattle.entity_changes.specs.making.Fates.{behind_at, entities_at, survivors}
use Rattle.entity_changes.proofs.Kept.{numbered_more}
use Rattle.entity_changes.proofs.making.lists.entity_lists.Goals as goal

pub loop-place-preserved : goal.loop-place-preserved
loop-place-preserved c =
    let fates = c.args.fates.now in
    let i = c.loop-place.place in
    let list : List Entity = c.index-lists-place.result in
    let kept : c.add_entities.new.items ≡ survivors fates (λ entity. key_spot (record { index = i }) (key_of c.args.model.now entity)) list =
    c.in_ok-add_entities.ensures ∙ ap (λ (first : List Entity). first ++ survivors fates
    (λ entity. key_spot (record { index = c.in_ok-narrow.field-0 }) (key_of c.args.model.now entity)) c.as_slice.result.now) c.empty-items.ensures
    ∙ (λ k. survivors fates (λ entity. key_spot (record { index = c.in_ok-narrow.ensures k }) (key_of c.args.model.now entity)) (c.as_slice.ensures.items k)) in
    let item : c.add_new_entities.new.items ≡ survivors fates (λ entity. key_spot (record { index = i }) (key_of c.args.model.now entity)) list ++ reverse
    (behind_at fates i) =
    c.in_ok-add_new_entities.ensures ∙ ap (λ (first : List Entity). first ++ reverse (behind_at fates i)) kept in
    c.in_ok-push.ensures.items
    ∙ numbered_more (entities_at c.args.model.now c.args.fates.now) c.args.lists.now i list c.loop-place.made.items c.add_new_entities.new.items c.loop-place.invariant
    c.loop-place-test.true c.index-lists-place.is item

pub returns : goal.returns
returns c = c.loop-place.invariant ∙ ap (map (entities_at c.args.model.now c.args.fates.now)) (take-enumerated c.args.lists.now c.loop-place.place c.loop-place-test.false)
