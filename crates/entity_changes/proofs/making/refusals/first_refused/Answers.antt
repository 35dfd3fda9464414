use Rattle.std.proofs.Common.{Option, refl, subst}
use Rattle.std.proofs.lemmas.Option.{slice_get_read}
use Rattle.emc_base.specs.Lists.{At}
use Rattle.entity_changes.specs.declared.change.Change.{Change}
use Rattle.entity_changes.specs.declared.change.Reason.{Reason}
use Rattle.entity_changes.specs.making.Standing.{Takes}
use Rattle.entity_changes.proofs.making.Refused.{refused, taken}
use Rattle.entity_changes.proofs.making.refusals.first_refused.Goals as goal

pub returns-in-Some : goal.returns-in-Some
returns-in-Some c =
    let model = c.args.model.now in
    let changes = c.args.changes.now in
    let i = c.loop-place.place in
    let one : Change = c.index-changes-place.result in
    let here : At changes i one = slice_get_read changes _ i one refl c.loop-place-test.true c.index-changes-place.is in
    refused model c.args.state.now changes i one here c.requires c.loop-place.standing c.take.new.self c.loop-place.invariant c.in-Some.reason
    (subst (λ (found : Option Reason). Takes model one c.loop-place.standing c.take.new.self found) c.in-Some.is c.in_ok-reason.ensures)

pub loop-place-preserved : goal.loop-place-preserved
loop-place-preserved c =
    let model = c.args.model.now in
    let changes = c.args.changes.now in
    let i = c.loop-place.place in
    let one : Change = c.index-changes-place.result in
    let here : At changes i one = slice_get_read changes _ i one refl c.loop-place-test.true c.index-changes-place.is in
    taken model c.args.state.now changes i one here c.requires c.loop-place.standing c.take.new.self c.loop-place.invariant
    (subst (λ (found : Option Reason). Takes model one c.loop-place.standing c.take.new.self found) c.in_default.is c.in_ok-reason.ensures)
