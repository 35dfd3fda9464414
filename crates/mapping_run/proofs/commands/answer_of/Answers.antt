use Rattle.std.proofs.Common.{Option, sym, subst}
use Rattle.emc_files.specs.Files.{FileMap}
use Rattle.mapping_run.specs.RunSteps.{SavesAt}
use Rattle.mapping_run.proofs.Answered.{ends_saved}
use Rattle.mapping_run.proofs.commands.answer_of.Goals as goal

-- the command writes a file
pub returns-in-Some-output_of : goal.returns-in-Some-output_of
returns-in-Some-output_of g c =
    let before = g.F.Files.fault_count c.args.files.now in
    let mid = g.F.Files.fault_count c.given.new.files in
    let now = g.F.Files.fault_count c.saved_at.new.files in
    let left = g.F.Files.held c.saved_at.new.files in
    let name = c.in-Some-output_of.name.now in
    let answer = c.in_ok-answer.answer in
    let Saves : Option FileMap → Type 0 = λ held. SavesAt g.F.Files.may_fail held left mid now name answer c.saved_at.result in
    ends_saved g.F.Files.may_fail c.args.words.now (g.F.Files.held c.args.files.now) left c.in-Some.command (sym c.in-Some.ensures) before mid now name (sym c.in-Some-output_of.ensures)
    answer c.in_ok-answer.ensures.gives c.saved_at.result (subst Saves c.in_ok-answer.ensures.same c.saved_at.ensures)
