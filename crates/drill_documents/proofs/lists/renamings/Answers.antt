use Rattle.std.proofs.Common.{◌∙◌, ◌++◌, ◌∷◌, ◌+◌, [], ap, sym, subst, map, ◌<◌, ◌≡◌, ◌%◌, ◌==◌, ℕ, Bool, true, false, rules}
use Rattle.std.proofs.lemmas.List.{map-append}
use Rattle.serde_json.specs.View.{view}
use Rattle.drill_documents.specs.Draws.{draw, draw_after}
use Rattle.drill_documents.specs.Lists.{renamings}
use Rattle.drill_documents.specs.Objects.{renamed}
use Rattle.drill_documents.proofs.Runs.{draw_more, draw_small, kept_more, left_more}
use Rattle.drill_documents.proofs.lists.renamings.Goals as goal

pub next_draw-draw-requires : goal.next_draw-draw-requires
next_draw-draw-requires c = subst (λ d. d < 65537) (sym c.loop-before.invariant.0) (draw_small c.args.seed c.loop-before.before)

pub loop-before-preserved-then-id-ne0 : goal.loop-before-preserved-then-id-ne0
loop-before-preserved-then-id-ne0 c =
    let seed = c.args.seed in
    let before = c.loop-before.before in
    let is_even : ℕ → Bool = λ i. i % 2 == 0 in
    let odd : is_even (before + 1) ≡ false = search (rules, c.if-id-ne0.true) in (
      c.next_draw-draw.ensures ∙ ap draw_after c.loop-before.invariant.0 ∙ sym (draw_more seed before),
      c.loop-before.invariant.1 ∙ sym (left_more (λ i. renamed i (draw seed i)) is_even before odd),
    )

pub loop-before-preserved : goal.loop-before-preserved
loop-before-preserved c =
    let seed = c.args.seed in
    let before = c.loop-before.before in
    let is_even : ℕ → Bool = λ i. i % 2 == 0 in
    let even : is_even (before + 1) ≡ true = search (rules, c.if-id-ne0.false) in
    let drawn = c.next_draw-draw.ensures ∙ ap draw_after c.loop-before.invariant.0 ∙ sym (draw_more seed before) in (
      drawn,
      ap (map view) c.in_ok-push.ensures.items
          ∙ map-append view c.loop-before.trees.items (c.in_ok-renamed.field-0 ∷ [])
          ∙ ap (λ trees. trees ++ view c.in_ok-renamed.field-0 ∷ []) c.loop-before.invariant.1
          ∙ ap (λ tree. renamings seed before ++ tree ∷ []) (c.in_ok-renamed.ensures ∙ ap (renamed (before + 1)) drawn)
          ∙ sym (kept_more (λ i. renamed i (draw seed i)) is_even before even),
    )
