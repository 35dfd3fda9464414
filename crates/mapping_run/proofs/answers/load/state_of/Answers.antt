use Rattle.mapping_run.proofs.answers.Loading.{names_table, refusal_told, state_printed}
use Rattle.mapping_run.proofs.answers.load.state_of.Goals as goal

pub printed-requires : goal.printed-requires
printed-requires c = c.in-Ok.ensures.1.legal.shape

pub refused-requires : goal.refused-requires
refused-requires c = names_table c.args.compiled.now c.args.tables.now c.in-Err.fault c.in-Err.ensures

pub returns-in-Ok : goal.returns-in-Ok
returns-in-Ok c = state_printed c.args.compiled.now c.args.tables.now c.in-Ok.state c.in-Ok.ensures c.printed.result c.printed.ensures

pub returns-in-Err : goal.returns-in-Err
returns-in-Err c = refusal_told c.args.compiled.now c.args.tables.now c.in-Err.fault c.in-Err.ensures c.refused.result c.refused.ensures
