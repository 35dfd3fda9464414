use Rattle.std.proofs.Common.{◌∙◌, ◌++◌, ◌+◌, ◌<◌, Some, None, Option, ℕ, List, ap, sym, subst, if◌then◌else◌, option_map, option_to_list}
use Rattle.serde_json.specs.Data.{Data}
use Rattle.drill_documents.specs.Draws.{draw, draw_after}
use Rattle.drill_documents.specs.Lists.{links, seeks_manager}
use Rattle.drill_documents.specs.Objects.{is_employee, link}
use Rattle.drill_documents.proofs.Runs.{draw_more, draw_small, last_employee_more, links_more}
use Rattle.drill_documents.proofs.links.links.Goals as goal

pub next_draw-draw-requires : goal.next_draw-draw-requires
next_draw-draw-requires c = subst (λ d. d < 65537) (sym c.loop-before.invariant.0) (draw_small c.args.seed c.loop-before.before)

pub loop-before-preserved : goal.loop-before-preserved
loop-before-preserved c =
    let seed = c.args.seed in
    let before = c.loop-before.before in
    let drawn = c.next_draw-draw.ensures ∙ ap draw_after c.loop-before.invariant.0 ∙ sym (draw_more c.args.seed c.loop-before.before) in
    let last_by : ℕ → Option ℕ → Option ℕ = λ d last. if is_employee d then Some (before + 1) else last in
    let more_by : ℕ → Option ℕ → List Data = λ d last. option_to_list (if seeks_manager d then option_map (link (before + 1)) last else None) in (
      drawn,
      c.last_with-last.ensures
          ∙ ap (λ d. last_by d c.loop-before.last) drawn
          ∙ ap (last_by (draw seed (before + 1))) c.loop-before.invariant.1
          ∙ sym (last_employee_more seed before),
      c.in_ok-put_link.ensures
          ∙ ap (λ trees. trees ++ more_by c.next_draw-draw.result c.loop-before.last) c.loop-before.invariant.2
          ∙ ap (λ d. links seed before ++ more_by d c.loop-before.last) drawn
          ∙ ap (λ last. links seed before ++ more_by (draw seed (before + 1)) last) c.loop-before.invariant.1
          ∙ sym (links_more seed before),
    )
