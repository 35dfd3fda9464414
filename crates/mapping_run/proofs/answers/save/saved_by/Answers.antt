use Rattle.mapping_run.proofs.answers.Saving.{names_table_of}
use Rattle.mapping_run.proofs.answers.save.saved_by.Goals as goal

pub refused-requires : goal.refused-requires
refused-requires c = names_table_of c.args.compiled.now c.args.tables.now c.args.changes.now c.in-Err.fault c.in-Err.ensures.saves
