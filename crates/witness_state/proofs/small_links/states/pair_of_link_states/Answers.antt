use Rattle.std.proofs.Common.{◌≡◌, sym, subst, ◌∙◌}
use Rattle.std.proofs.lemmas.Result.{IfOk-weaker}
use Rattle.failure_laws.specs.SmallLinks.{small_pair}
use Rattle.round_trip.specs.Words.{State}
use Rattle.supported_states.specs.small_parts.Small.{IsSupported}
use Rattle.witness_state.proofs.links_small.States.{one_is, part_beside, two_is}
use Rattle.witness_state.proofs.links_small.Supported.{linked_supported, unlinked_supported}
use Rattle.witness_state.proofs.small_links.states.pair_of_link_states.Goals as goal

pub small_states-requires-clause-one : goal.small_states-requires-clause-one
small_states-requires-clause-one c =
    subst (IsSupported c.args.model.now 0) (sym c.in_ok-one.ensures) (linked_supported c.args.model.now 0 c.args.assoc c.args.declared.now c.requires)

pub small_states-requires-clause-two : goal.small_states-requires-clause-two
small_states-requires-clause-two c =
    subst (IsSupported c.args.model.now 0) (sym c.in_ok-two.ensures) (unlinked_supported c.args.model.now 0 c.args.assoc c.args.declared.now c.requires)

pub returns-clause-one : goal.returns-clause-one
returns-clause-one c =
    let model = c.args.model.now in
    let roots = c.in_ok-roots.roots in
    let one = c.in_ok-one.one in
    let two = c.in_ok-two.two in
    IfOk-weaker c.small_states.result (λ (both : State × State). both.0 ≡ part_beside model 0 roots one two one)
    (λ (both : State × State). both.0 ≡ (small_pair model 0 c.args.assoc c.args.declared.now).0)
    (λ both is. is ∙ one_is model 0 c.args.assoc c.args.declared.now roots c.in_ok-roots.ensures one c.in_ok-one.ensures two c.in_ok-two.ensures) c.small_states.ensures.one

pub returns-clause-two : goal.returns-clause-two
returns-clause-two c =
    let model = c.args.model.now in
    let roots = c.in_ok-roots.roots in
    let one = c.in_ok-one.one in
    let two = c.in_ok-two.two in
    IfOk-weaker c.small_states.result (λ (both : State × State). both.1 ≡ part_beside model 0 roots one two two)
    (λ (both : State × State). both.1 ≡ (small_pair model 0 c.args.assoc c.args.declared.now).1)
    (λ both is. is ∙ two_is model 0 c.args.assoc c.args.declared.now roots c.in_ok-roots.ensures one c.in_ok-one.ensures two c.in_ok-two.ensures) c.small_states.ensures.two
