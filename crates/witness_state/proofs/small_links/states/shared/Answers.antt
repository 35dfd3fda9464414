use Rattle.std.proofs.Common.{[], ◌∷◌, ◌++◌, ◌∙◌}
use Rattle.std.proofs.lemmas.Result.{IfOk-weaker}
use Rattle.witness_state.specs.SmallLinks.{supporting}
use Rattle.witness_state.proofs.small_links.states.shared.Goals as goal

pub returns : goal.returns
returns c =
    let model = c.args.model.now in
    let one_is = c.in_ok-push.ensures.ok ∙ (λ k. c.empty-links.ensures k ++ (c.in_ok-plain_one.ensures k ∷ [])) in
    let links_are = c.in_ok-push-2.ensures.ok ∙ (λ k. one_is k ++ (c.in_ok-other_one.ensures k ∷ [])) in
    IfOk-weaker c.supporting.result _ _
    (λ one is. is ∙ (λ k. supporting model 0 (c.at_first.ensures model 0 k ∷ (c.at_second.ensures model 0 k ∷ (c.other_at.ensures model 0 k ∷ []))) (links_are k))) c.supporting.ensures
