use Rattle.std.proofs.Common.{◌∙◌, ◌++◌, ◌∷◌, ◌+◌, [], ap, sym, subst, map, ◌<◌}
use Rattle.std.proofs.lemmas.List.{map-append}
use Rattle.serde_json.specs.View.{view}
use Rattle.drill_documents.specs.Draws.{draw_after}
use Rattle.drill_documents.specs.Lists.{documents}
use Rattle.drill_documents.specs.Objects.{document}
use Rattle.drill_documents.proofs.Runs.{draw_more, draw_small, documents_more}
use Rattle.drill_documents.proofs.lists.documents.Goals as goal

pub next_draw-draw-requires : goal.next_draw-draw-requires
next_draw-draw-requires c = subst (λ d. d < 65537) (sym c.loop-before.invariant.0) (draw_small c.args.seed c.loop-before.before)

pub loop-before-preserved : goal.loop-before-preserved
loop-before-preserved c =
    let drawn = c.next_draw-draw.ensures ∙ ap draw_after c.loop-before.invariant.0 ∙ sym (draw_more c.args.seed c.loop-before.before) in (
      drawn,
      ap (map view) c.in_ok-push.ensures.items
          ∙ map-append view c.loop-before.trees.items (c.in_ok-document.field-0 ∷ [])
          ∙ ap (λ before. before ++ view c.in_ok-document.field-0 ∷ []) c.loop-before.invariant.1
          ∙ ap (λ tree. documents c.args.seed c.loop-before.before ++ tree ∷ []) (c.in_ok-document.ensures ∙ ap (document (c.loop-before.before + 1)) drawn)
          ∙ sym (documents_more c.args.seed c.loop-before.before),
    )
