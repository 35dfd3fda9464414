use Rattle.std.proofs.Common.{◌≡◌, ◌++◌, ◌∷◌, [], List, append-nil, map, reverse, ap, sym, ◌∙◌}
use Rattle.std.specs.Borrow.{Bor}
use Rattle.std.proofs.lemmas.List.{nil_from_length}
use Rattle.round_trip.specs.Words.{Entity}
use Rattle.entity_changes.proofs.Kept.{one_turned}
use Rattle.entity_changes.proofs.making.lists.add_new_entities.Goals as goal

abbrev lent : List (Bor Entity) → List Entity
lent items = map (λ item. item.now) items

pub loop-entity-init : goal.loop-entity-init
loop-entity-init c =
    let rest : c.into_iter-entity-iterator.result.iter.rest.now ≡ c.behind.result.now =
    ap (λ turned. turned.iter.rest.now) c.into_iter-entity-iterator.ensures.into_iter_gives ∙ ap (λ iter. iter.rest.now) c.rev-entity-items.ensures.source
    ∙ c.iter.ensures.rest in
    ap (λ items. c.args.items.now ++ reverse (lent items)) rest ∙ ap (λ items. c.args.items.now ++ reverse items) c.behind.ensures

pub loop-entity-preserved : goal.loop-entity-preserved
loop-entity-preserved c =
    ap (λ items. items ++ reverse (lent c.next.new.self.iter.rest.now)) (c.in_ok-push.ensures.ok
    ∙ ap (λ item. c.loop-entity.items ++ item ∷ []) c.in_ok-copied_entity.ensures)
    ∙ one_turned c.loop-entity.items c.next.new.self.iter.rest.now c.in-Some.entity.now
    ∙ ap (λ items. c.loop-entity.items ++ reverse (lent items)) (sym c.in-Some.ensures.steps)
    ∙ c.loop-entity.invariant

pub returns : goal.returns
returns c =
    sym (append-nil c.loop-entity.items)
    ∙ ap (λ items. c.loop-entity.items ++ reverse (lent items)) (sym (nil_from_length c.loop-entity.entity-iterator.iter.rest.now c.in-None.ensures.steps.0))
    ∙ c.loop-entity.invariant
