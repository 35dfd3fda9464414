use Rattle.mapping_run.proofs.answers.Answered.{loaded_result}
use Rattle.mapping_run.proofs.answers.load.loaded.Goals as goal

pub returns-in-Ok : goal.returns-in-Ok
returns-in-Ok c = loaded_result c.args.document.now c.schema.result.now c.args.compiled.now c.schema.ensures.lends c.in-Ok.tables c.in-Ok.ensures c.state_of.result c.state_of.ensures
