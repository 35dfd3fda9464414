use Rattle.std.proofs.Common.{ap, ◌∙◌}
use Rattle.emc_base.proofs.Lists.{at_once}
use Rattle.round_trip.specs.Words.{State}
use Rattle.failure_laws.specs.SmallLinks.{small_link}
use Rattle.witness_state.specs.declared.failure.Failure.{Failure}
use Rattle.witness_state.specs.Shown.{shown_alone}
use Rattle.witness_state.proofs.link_failures.joined_failure.Goals as goal

pub returns : goal.returns
returns c declared here =
    let parts = c.args.parts.now in
    let same = at_once parts.model.now.assocs c.args.assoc.index c.at-declared.result.now declared c.at-declared.ensures here in
    let shown : State → Failure = λ state. shown_alone c.args.kind c.args.place state in
    c.alone.ensures ∙ ap shown (c.in_ok-state.ensures ∙ ap (small_link parts.model.now 0 c.args.assoc) same)
