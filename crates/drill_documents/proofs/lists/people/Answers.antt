use Rattle.std.proofs.Common.{◌∙◌, ◌++◌, ◌∷◌, ◌+◌, [], ap, sym, subst, map, ◌<◌}
use Rattle.std.proofs.lemmas.List.{map-append}
use Rattle.serde_json.specs.View.{view}
use Rattle.drill_documents.specs.Draws.{draw_after}
use Rattle.drill_documents.specs.Lists.{people}
use Rattle.drill_documents.specs.Objects.{person}
use Rattle.drill_documents.proofs.Runs.{draw_more, draw_small, people_more}
use Rattle.drill_documents.proofs.lists.people.Goals as goal

pub next_draw-draw-requires : goal.next_draw-draw-requires
next_draw-draw-requires c = subst (λ d. d < 65537) (sym c.loop-before.invariant.0) (draw_small c.args.seed c.loop-before.before)

pub loop-before-preserved : goal.loop-before-preserved
loop-before-preserved c =
    let drawn = c.next_draw-draw.ensures ∙ ap draw_after c.loop-before.invariant.0 ∙ sym (draw_more c.args.seed c.loop-before.before) in (
      drawn,
      ap (map view) c.in_ok-push.ensures.items
          ∙ map-append view c.loop-before.trees.items (c.in_ok-person.field-0 ∷ [])
          ∙ ap (λ before. before ++ view c.in_ok-person.field-0 ∷ []) c.loop-before.invariant.1
          ∙ ap (λ tree. people c.args.seed c.loop-before.before ++ tree ∷ []) (c.in_ok-person.ensures ∙ ap (person (c.loop-before.before + 1)) drawn)
          ∙ sym (people_more c.args.seed c.loop-before.before),
    )
