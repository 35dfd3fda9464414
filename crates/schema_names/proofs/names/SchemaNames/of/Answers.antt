use Rattle.schema_names.proofs.Inherits.{sound_inherits}
use Rattle.schema_names.proofs.names.SchemaNames.of.Goals as goal

pub invariant_of-result : goal.invariant_of-result
invariant_of-result c = record { tabled = c.in_ok-tables.ensures; inherits = sound_inherits c.args.model.now c.requires }
