use Rattle.std.proofs.Common.{Err, ap, subst}
use Rattle.mapping_run.specs.RunSteps.{TellsReadFault}
use Rattle.mapping_run.proofs.FilesRead.{input_of, reads_fault}
use Rattle.mapping_run.proofs.inputs.read_input.Goals as goal

pub returns-in-Ok-clause-reads : goal.returns-in-Ok-clause-reads
returns-in-Ok-clause-reads g c = (c.in-Ok.ensures.cause, input_of (g.F.Files.held c.args.files.now) c.args.name.now c.in-Ok.bytes c.in-Ok.ensures.tells c.in-Ok.ensures.fits)

pub returns-in-Err-clause-reads : goal.returns-in-Err-clause-reads
returns-in-Err-clause-reads g c = reads_fault g.F.Files.may_fail (g.F.Files.held c.args.files.now) (g.F.Files.fault_count c.args.files.now) (g.F.Files.fault_count c.read.new.self)
    c.args.name.now c.in-Err.fault c.told_of.result c.in-Err.ensures.tells c.in-Err.ensures.cause (λ failed. c.in-Err.ensures.allowed (ap Err failed))
    (subst (λ name. TellsReadFault name c.in-Err.fault c.told_of.result) c.as_str.ensures.text c.told_of.ensures)
