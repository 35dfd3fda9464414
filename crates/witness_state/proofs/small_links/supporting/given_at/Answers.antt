use Rattle.std.proofs.Common.{◌≡◌, [], ◌∷◌, ◌++◌, sym, ap, ◌∙◌}
use Rattle.std.proofs.lemmas.List.{map_more}
use Rattle.population.specs.LinkStates.{placed_at}
use Rattle.population.specs.declared.placed.Placed.{Placed}
use Rattle.witness_state.specs.SmallLinks.{plain_end}
use Rattle.witness_state.specs.declared.small_links.ends.EndAt.{EndAt}
use Rattle.witness_state.proofs.small_links.supporting.given_at.Goals as goal

pub loop-one-preserved : goal.loop-one-preserved
loop-one-preserved c =
    let f : EndAt → Placed = λ one. placed_at c.args.model.now c.args.row (plain_end one) in
    let last : c.in_ok-placed_at.field-0 ≡ _ = c.in_ok-placed_at.ensures ∙ ap f c.one-item.is in
    c.in_ok-push.ensures.ok ∙ (λ k. c.loop-one.invariant k ++ (last k ∷ []))
    ∙ sym (map_more f c.args.ends.now c.loop-one.one-index c.one-item.result c.loop-one-test.true)
