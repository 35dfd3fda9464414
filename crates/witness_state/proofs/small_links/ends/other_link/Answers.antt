use Rattle.std.proofs.Common.{ap, ◌∙◌}
use Rattle.population.specs.LinkStates.{key_at}
use Rattle.population.specs.Supported.{link_of}
use Rattle.witness_state.proofs.small_links.ends.other_link.Goals as goal

pub returns : goal.returns
returns c =
    let model = c.args.model.now in
    let near = c.in_ok-near.ensures ∙ ap (key_at model 0) (c.at_end.ensures model 0) in
    let far = c.in_ok-far.ensures ∙ ap (key_at model 0) (c.other_at.ensures model 0) in
    c.link_of.ensures ∙ (λ k. link_of c.args.first (near k) (far k))
