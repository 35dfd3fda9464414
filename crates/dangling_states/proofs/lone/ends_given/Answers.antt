use Rattle.std.proofs.Common.{◌∷◌, ◌++◌, [], ap, ◌∙◌}
use Rattle.population.specs.LinkStates.{placed_at}
use Rattle.dangling_states.proofs.lone.ends_given.Goals as goal

pub returns-clause-given : goal.returns-clause-given
returns-clause-given c =
    let model = c.args.parts.now.model.now in
    let first = c.in_ok-placed_at.ensures ∙ ap (placed_at model c.args.row) (c.at_first.ensures model c.args.row) in
    let second = c.in_ok-placed_at-2.ensures ∙ ap (placed_at model c.args.row) (c.at_second.ensures model c.args.row) in
    let one = c.in_ok-push.ensures.ok ∙ (λ k. c.empty-given.ensures k ++ first k ∷ []) in
    c.in_ok-push-2.ensures.ok ∙ (λ k. one k ++ second k ∷ [])
