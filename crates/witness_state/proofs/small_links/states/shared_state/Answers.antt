use Rattle.std.proofs.Common.{◌≡◌, sym, subst, ◌∙◌}
use Rattle.std.proofs.lemmas.Result.{IfOk-weaker}
use Rattle.failure_laws.specs.SmallLinks.{small_shared}
use Rattle.round_trip.specs.Words.{State}
use Rattle.supported_states.specs.small_parts.Small.{IsSupported}
use Rattle.witness_state.proofs.links_small.States.{part, shared_is}
use Rattle.witness_state.proofs.links_small.Supported.{shared_supported}
use Rattle.witness_state.proofs.small_links.states.shared_state.Goals as goal

pub small_state-requires : goal.small_state-requires
small_state-requires c =
    subst (IsSupported c.args.model.now 0) (sym c.in_ok-one.ensures)
    (shared_supported c.args.model.now 0 c.args.assoc c.args.declared.now c.requires.linkable c.args.first c.requires.many)

pub returns : goal.returns
returns c =
    let model = c.args.model.now in
    let roots = c.in_ok-roots.roots in
    IfOk-weaker c.small_state.result (λ (state : State). state ≡ part model 0 roots c.in_ok-one.one)
    (λ (state : State). state ≡ small_shared model 0 c.args.assoc c.args.declared.now c.args.first)
    (λ state is. is ∙ shared_is model 0 c.args.assoc c.args.declared.now roots c.args.first c.in_ok-roots.ensures c.in_ok-one.one c.in_ok-one.ensures) c.small_state.ensures
