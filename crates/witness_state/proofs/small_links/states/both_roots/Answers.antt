use Rattle.std.proofs.Common.{[], ◌∷◌, ◌∙◌}
use Rattle.std.proofs.lemmas.Result.{IfOk-weaker}
use Rattle.witness_state.specs.SmallLinks.{root_at}
use Rattle.witness_state.proofs.small_links.states.both_roots.Goals as goal

pub returns : goal.returns
returns c =
    let model = c.args.model.now in
    IfOk-weaker c.roots_at.result _ _
    (λ roots is. is ∙ (λ k. root_at model c.args.row (c.at_first.ensures model c.args.row k) ∷ (root_at model c.args.row (c.at_second.ensures model c.args.row k) ∷ []))) c.roots_at.ensures
