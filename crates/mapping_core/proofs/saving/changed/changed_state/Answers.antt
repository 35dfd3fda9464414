use Rattle.std.proofs.Common.{Option, subst}
use Rattle.round_trip.specs.Words.{Breach, IsBreachOf, State}
use Rattle.state_legality.specs.Tells.{TellsState}
use Rattle.mapping_core.specs.states.SaveParts.{ChangesTo, IsOfApply}
use Rattle.mapping_core.proofs.saved.Passed.{not_applied, passed_as}
use Rattle.mapping_core.proofs.saving.changed.changed_state.Goals as goal

-- a change is refused
pub returns-in_err-after : goal.returns-in_err-after
returns-in_err-after c =
    let told = c.in_err-after.field-0.0 in
    passed_as (ChangesTo c.args.model.now c.args.changes.now c.args.state.now) (IsOfApply told) c.from_residual.result c.from_residual.ensures.1
    (not_applied c.args.model.now c.args.changes.now c.args.state.now told c.in_err-after.ensures.applied)

-- the state afterwards isn't legal
pub returns-in-Some : goal.returns-in-Some
returns-in-Some c =
    let model = c.args.model.now in
    let applied = c.in_ok-after.ensures.applied in
    let Told : Option Breach → Type 0 = TellsState model c.in_ok-after.after in
    let Breaks : State → Type 0 = λ state. IsBreachOf model state c.in-Some.breach in
    (applied.0, subst Breaks applied.1 (subst Told c.in-Some.is c.in_ok-breach.ensures))

pub returns-in-None : goal.returns-in-None
returns-in-None c =
    let applied = c.in_ok-after.ensures.applied in
    let Told : Option Breach → Type 0 = TellsState c.args.model.now c.in_ok-after.after in
    (applied.0, applied.1, subst Told c.in-None.is c.in_ok-breach.ensures)
