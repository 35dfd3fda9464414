use Rattle.std.proofs.Common.{◌≡◌, sym, subst, ◌∙◌}
use Rattle.std.proofs.lemmas.Result.{IfOk-weaker}
use Rattle.failure_laws.specs.SmallLinks.{small_link}
use Rattle.round_trip.specs.Words.{State}
use Rattle.supported_states.specs.small_parts.Small.{IsSupported}
use Rattle.witness_state.proofs.links_small.States.{link_is, part}
use Rattle.witness_state.proofs.links_small.Supported.{linked_supported}
use Rattle.witness_state.proofs.small_links.states.link_state.Goals as goal

pub small_state-requires : goal.small_state-requires
small_state-requires c =
    subst (IsSupported c.args.model.now c.args.row) (sym c.in_ok-one.ensures) (linked_supported c.args.model.now c.args.row c.args.assoc c.args.declared.now c.requires)

pub returns : goal.returns
returns c =
    let model = c.args.model.now in
    let roots = c.in_ok-roots.roots in
    IfOk-weaker c.small_state.result (λ (state : State). state ≡ part model c.args.row roots c.in_ok-one.one) (λ (state : State). state ≡ small_link model c.args.row c.args.assoc c.args.declared.now)
    (λ state is. is ∙ link_is model c.args.row c.args.assoc c.args.declared.now roots c.in_ok-roots.ensures c.in_ok-one.one c.in_ok-one.ensures) c.small_state.ensures
