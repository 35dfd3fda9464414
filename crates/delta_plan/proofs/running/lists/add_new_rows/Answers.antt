use Rattle.std.proofs.Common.{◌≡◌, ◌++◌, ◌∷◌, [], List, append-nil, map, reverse, ap, sym, ◌∙◌}
use Rattle.std.specs.Borrow.{Bor}
use Rattle.std.proofs.lemmas.List.{nil_from_length}
use Rattle.round_trip.specs.Words.{Row}
use Rattle.entity_changes.proofs.Kept.{one_turned}
use Rattle.delta_plan.proofs.running.lists.add_new_rows.Goals as goal

abbrev lent : List (Bor Row) → List Row
lent items = map (λ item. item.now) items

pub loop-row-init : goal.loop-row-init
loop-row-init c =
    let rest : c.into_iter-row-iterator.result.iter.rest.now ≡ c.behind.result.now =
    ap (λ turned. turned.iter.rest.now) c.into_iter-row-iterator.ensures.into_iter_gives ∙ ap (λ iter. iter.rest.now) c.rev-row-items.ensures.source
    ∙ c.iter.ensures.rest in
    ap (λ items. c.args.items.now ++ reverse (lent items)) rest ∙ ap (λ items. c.args.items.now ++ reverse items) c.behind.ensures

pub loop-row-preserved : goal.loop-row-preserved
loop-row-preserved c =
    ap (λ items. items ++ reverse (lent c.next.new.self.iter.rest.now)) (c.in_ok-push.ensures.ok
    ∙ ap (λ item. c.loop-row.items ++ item ∷ []) c.in_ok-copied_row.ensures)
    ∙ one_turned c.loop-row.items c.next.new.self.iter.rest.now c.in-Some.row.now
    ∙ ap (λ items. c.loop-row.items ++ reverse (lent items)) (sym c.in-Some.ensures.steps)
    ∙ c.loop-row.invariant

pub returns : goal.returns
returns c =
    sym (append-nil c.loop-row.items)
    ∙ ap (λ items. c.loop-row.items ++ reverse (lent items)) (sym (nil_from_length c.loop-row.row-iterator.iter.rest.now c.in-None.ensures.steps.0))
    ∙ c.loop-row.invariant
