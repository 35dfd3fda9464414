use Rattle.std.proofs.Common.{Option, subst}
use Rattle.round_trip.specs.Words.{Breach, IsLegal}
use Rattle.state_legality.specs.Tells.{TellsState}
use Rattle.mapping_core.proofs.Telling.{illegal, lacks, loaded, refused}
use Rattle.mapping_core.proofs.loading.load_legal.Goals as goal

pub returns-in_err-state : goal.returns-in_err-state
returns-in_err-state c =
    let made = c.requires.made in
    lacks c.args.made.now.parts made.accepted made.parts c.args.tables.now c.in_err-state.field-0.0 c.from_residual.result c.from_residual.ensures.1 c.in_err-state.ensures

pub returns-in-Some : goal.returns-in-Some
returns-in-Some c =
    let parts = c.args.made.now.parts in
    let made = c.requires.made in
    let state = c.in_ok-state.state in
    let Told : Option Breach → Type 0 = TellsState parts.model.now state in
    illegal parts made.accepted made.parts c.args.tables.now state c.in_ok-state.ensures c.in-Some.breach (subst Told c.in-Some.is c.in_ok-breach.ensures)

pub returns-in_err-compare : goal.returns-in_err-compare
returns-in_err-compare c =
    let parts = c.args.made.now.parts in
    let made = c.requires.made in
    let state = c.in_ok-state.state in
    let Told : Option Breach → Type 0 = TellsState parts.model.now state in
    let legal : IsLegal parts.model.now state = subst Told c.in_default.is c.in_ok-breach.ensures in
    refused parts made.accepted made.parts c.args.tables.now state c.in_ok-state.ensures legal c.in_err-compare.field-0.0 c.from_residual-in_err-compare.result
    c.from_residual-in_err-compare.ensures.1 c.in_err-compare.ensures

pub returns : goal.returns
returns c =
    let parts = c.args.made.now.parts in
    let made = c.requires.made in
    let state = c.in_ok-state.state in
    let Told : Option Breach → Type 0 = TellsState parts.model.now state in
    let legal : IsLegal parts.model.now state = subst Told c.in_default.is c.in_ok-breach.ensures in
    loaded parts made.accepted made.parts c.args.tables.now state c.in_ok-state.ensures legal c.in_ok-compare.ensures
