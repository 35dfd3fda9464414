use Rattle.std.proofs.Common.{◌≡◌, ◌++◌, ◌∷◌, [], List, append-nil, map, reverse, ap, sym, ◌∙◌}
use Rattle.std.specs.Borrow.{Bor}
use Rattle.std.proofs.lemmas.List.{nil_from_length}
use Rattle.round_trip.specs.Words.{Link}
use Rattle.entity_changes.proofs.Kept.{one_turned}
use Rattle.entity_changes.proofs.making.lists.add_new_links.Goals as goal

abbrev lent : List (Bor Link) → List Link
lent items = map (λ item. item.now) items

pub loop-link-init : goal.loop-link-init
loop-link-init c =
    let rest : c.into_iter-link-iterator.result.iter.rest.now ≡ c.behind.result.now =
    ap (λ turned. turned.iter.rest.now) c.into_iter-link-iterator.ensures.into_iter_gives ∙ ap (λ iter. iter.rest.now) c.rev-link-items.ensures.source
    ∙ c.iter.ensures.rest in
    ap (λ items. c.args.items.now ++ reverse (lent items)) rest ∙ ap (λ items. c.args.items.now ++ reverse items) c.behind.ensures

pub loop-link-preserved : goal.loop-link-preserved
loop-link-preserved c =
    ap (λ items. items ++ reverse (lent c.next.new.self.iter.rest.now)) (c.in_ok-push.ensures.ok
    ∙ ap (λ item. c.loop-link.items ++ item ∷ []) c.in_ok-copied_link.ensures)
    ∙ one_turned c.loop-link.items c.next.new.self.iter.rest.now c.in-Some.link.now
    ∙ ap (λ items. c.loop-link.items ++ reverse (lent items)) (sym c.in-Some.ensures.steps)
    ∙ c.loop-link.invariant

pub returns : goal.returns
returns c =
    sym (append-nil c.loop-link.items)
    ∙ ap (λ items. c.loop-link.items ++ reverse (lent items)) (sym (nil_from_length c.loop-link.link-iterator.iter.rest.now c.in-None.ensures.steps.0))
    ∙ c.loop-link.invariant
