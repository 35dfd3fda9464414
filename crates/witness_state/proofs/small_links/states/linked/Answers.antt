use Rattle.std.proofs.Common.{[], ◌∷◌, ◌++◌, ◌∙◌}
use Rattle.std.proofs.lemmas.Result.{IfOk-weaker}
use Rattle.witness_state.specs.SmallLinks.{supporting}
use Rattle.witness_state.proofs.small_links.states.linked.Goals as goal

pub returns : goal.returns
returns c =
    let model = c.args.model.now in
    let links_are = c.in_ok-push.ensures.ok ∙ (λ k. c.empty-links.ensures k ++ (c.in_ok-plain_one.ensures k ∷ [])) in
    IfOk-weaker c.supporting.result _ _
    (λ one is. is ∙ (λ k. supporting model c.args.row (c.at_first.ensures model c.args.row k ∷ (c.at_second.ensures model c.args.row k ∷ [])) (links_are k))) c.supporting.ensures
