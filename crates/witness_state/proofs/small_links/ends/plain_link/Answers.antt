use Rattle.std.proofs.Common.{ap, ◌∙◌}
use Rattle.population.specs.LinkStates.{key_at}
use Rattle.witness_state.proofs.small_links.ends.plain_link.Goals as goal

pub returns : goal.returns
returns c =
    let model = c.args.model.now in
    let first = c.in_ok-key_at.ensures ∙ ap (key_at model c.args.row) (c.at_first.ensures model c.args.row) in
    let second = c.in_ok-key_at-2.ensures ∙ ap (key_at model c.args.row) (c.at_second.ensures model c.args.row) in
    λ k. record { first = first k; second = second k }
