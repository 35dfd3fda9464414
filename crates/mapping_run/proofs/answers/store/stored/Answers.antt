use Rattle.mapping_run.proofs.answers.Answered.{stored_result}
use Rattle.mapping_run.proofs.answers.store.stored.Goals as goal

pub returns-in-Ok : goal.returns-in-Ok
returns-in-Ok c = stored_result c.args.entities.now c.schema.result.now c.args.compiled.now c.schema.ensures.lends c.in-Ok.state c.in-Ok.ensures c.tables_of.result c.tables_of.ensures
