use Rattle.std.proofs.Common.{IfOk, sym, subst}
use Rattle.mapping_run.specs.answers.Gives.{GivesBy}
use Rattle.mapping_run.specs.declared.answers.command.Command.{Command}
use Rattle.mapping_run.proofs.answers.Answered.{checked_result, load_result, store_result, views_result}
use Rattle.mapping_run.proofs.answers.answering.answer_with.Goals as goal

pub returns-in-Check : goal.returns-in-Check
returns-in-Check c =
    let By : Command → Type 0 = λ command. IfOk c.checked.result (GivesBy command c.args.contents.now c.args.compiled.now) in
    subst By (sym c.in-Check.is) (checked_result c.args.contents.now c.args.compiled.now c.checked.result c.checked.ensures)

pub returns-in-Views : goal.returns-in-Views
returns-in-Views c =
    let By : Command → Type 0 = λ command. IfOk c.viewed.result (GivesBy command c.args.contents.now c.args.compiled.now) in
    subst By (sym c.in-Views.is) (views_result c.args.contents.now c.args.compiled.now c.viewed.result c.viewed.ensures)

pub returns-in-Store : goal.returns-in-Store
returns-in-Store c =
    let By : Command → Type 0 = λ command. IfOk c.stored.result (GivesBy command c.args.contents.now c.args.compiled.now) in
    subst By (sym c.in-Store.is) (store_result c.args.contents.now c.at.result.now c.at.ensures c.args.compiled.now c.stored.result c.stored.ensures)

pub returns-in-Load : goal.returns-in-Load
returns-in-Load c =
    let By : Command → Type 0 = λ command. IfOk c.loaded.result (GivesBy command c.args.contents.now c.args.compiled.now) in
    subst By (sym c.in-Load.is) (load_result c.args.contents.now c.at-in-Load.result.now c.at-in-Load.ensures c.args.compiled.now c.loaded.result c.loaded.ensures)
