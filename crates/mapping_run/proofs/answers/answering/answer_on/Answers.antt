use Rattle.std.proofs.Common.{◌≡◌, Err, sym, subst}
use Rattle.mapping_run.specs.declared.answers.answer.Halt.{Halt}
use Rattle.mapping_run.specs.declared.answers.answer.Halt.TheVariants.{Tells}
use Rattle.mapping_run.specs.answers.Answers.{Accepts}
use Rattle.mapping_run.specs.answers.Gives.{GivesOn}
use Rattle.mapping_run.proofs.answers.Answered.{answers_accepted, answers_refused}
use Rattle.mapping_run.proofs.answers.answering.answer_on.Goals as goal

pub returns-in-Ok : goal.returns-in-Ok
returns-in-Ok c = answers_accepted c.args.command c.args.contents.now c.in-Ok.mapping c.in-Ok.ensures c.answer_by.result c.answer_by.ensures

pub returns-in-Err-Tells : goal.returns-in-Err-Tells
returns-in-Err-Tells c =
    let answer = c.in-Err-Tells.answer in
    let field : c.in-Err-Tells.field-0 ≡ Tells answer = cc in
    let Told : Halt → Type 0 = λ halt. Accepts c.args.contents.now (Err halt) in
    let refuses : Accepts c.args.contents.now (Err (Tells answer)) = subst Told field c.in-Err-Tells.ensures in
    subst (GivesOn c.args.command c.args.contents.now) (sym c.in-Err-Tells.answer-is) (answers_refused c.args.command c.args.contents.now answer refuses)
