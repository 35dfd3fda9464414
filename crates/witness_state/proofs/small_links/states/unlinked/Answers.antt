use Rattle.std.proofs.Common.{[], ◌∷◌, ◌∙◌}
use Rattle.std.proofs.lemmas.Result.{IfOk-weaker}
use Rattle.witness_state.specs.SmallLinks.{supporting}
use Rattle.witness_state.proofs.small_links.states.unlinked.Goals as goal

pub returns : goal.returns
returns c =
    let model = c.args.model.now in
    IfOk-weaker c.supporting.result _ _
    (λ one is. is ∙ (λ k. supporting model 0 (c.at_first.ensures model 0 k ∷ (c.at_second.ensures model 0 k ∷ [])) (c.empty-links.ensures k))) c.supporting.ensures
