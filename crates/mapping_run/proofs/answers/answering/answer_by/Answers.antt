use Rattle.std.proofs.Common.{IfOk, sym, subst}
use Rattle.mapping_core.specs.Words.{Schema}
use Rattle.mapping_run.specs.answers.Gives.{GivesBy}
use Rattle.mapping_run.specs.declared.answers.command.Command.{Command}
use Rattle.mapping_run.proofs.answers.Answered.{checked_result}
use Rattle.mapping_run.proofs.answers.answering.answer_by.Goals as goal

pub returns-in-Check : goal.returns-in-Check
returns-in-Check c =
    let By : Command → Type 0 = λ command. IfOk c.checked.result (GivesBy command c.args.contents.now c.args.mapping) in
    subst By (sym c.in-Check.is) (checked_result c.args.contents.now c.args.mapping c.checked.result c.checked.ensures)

pub returns : goal.returns
returns c =
    let By : Schema → Type 0 = λ schema. IfOk c.answer_with-answer.result (GivesBy c.args.command c.args.contents.now schema) in
    subst By c.in_ok-compiled.ensures c.answer_with-answer.ensures
