use Rattle.cells.specs.Parts.{schema_in}
use Rattle.mapping_core.specs.states.Saves.{Saves}
use Rattle.mapping_core.proofs.saved.Passed.{passed}
use Rattle.mapping_core.proofs.saved.Composed.{not_kept, not_planned, saved}
use Rattle.mapping_core.proofs.saving.save_loaded.Goals as goal

-- a row refers to none
pub returns-in_err-kept-clause-saves : goal.returns-in_err-kept-clause-saves
returns-in_err-kept-clause-saves g c =
    let schema = schema_in c.args.made.now.parts in
    let fault = c.in_err-kept.field-0.0 in
    passed (Saves schema c.args.tables.now c.args.changes.now) fault c.from_residual-in_err-kept.result c.from_residual-in_err-kept.ensures.1
    (not_kept schema c.args.tables.now c.args.changes.now c.args.state.now c.requires.told c.in_ok-after.after c.in_ok-after.ensures fault c.in_err-kept.ensures)

-- no order keeps all keys
pub returns-in_err-planned-clause-saves : goal.returns-in_err-planned-clause-saves
returns-in_err-planned-clause-saves g c =
    let schema = schema_in c.args.made.now.parts in
    let fault = c.in_err-planned.field-0.0 in
    passed (Saves schema c.args.tables.now c.args.changes.now) fault c.from_residual-in_err-planned.result c.from_residual-in_err-planned.ensures.1
    (not_planned schema c.args.tables.now c.args.changes.now c.args.state.now c.requires.told c.in_ok-after.after c.in_ok-after.ensures c.in_ok-kept.kept c.in_ok-kept.ensures
    fault c.in_err-planned.ensures.plans)

pub returns-clause-saves : goal.returns-clause-saves
returns-clause-saves g c =
    saved (schema_in c.args.made.now.parts) c.args.tables.now c.args.changes.now c.args.state.now c.requires.told c.in_ok-after.after c.in_ok-after.ensures
    c.in_ok-kept.kept c.in_ok-kept.ensures c.requires.made.parts.sound.store c.in_ok-planned.planned c.in_ok-planned.ensures.plans
