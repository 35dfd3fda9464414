use Rattle.msl_checks.proofs.msl_written.KeysApart.{keys_apart}
use Rattle.msl_fragments.proofs.reading.first_in_writing.Goals as goal

pub invariant_of-between-clause-apart : goal.invariant_of-between-clause-apart
invariant_of-between-clause-apart c = keys_apart c.args.names.now.model.now c.requires.sound
