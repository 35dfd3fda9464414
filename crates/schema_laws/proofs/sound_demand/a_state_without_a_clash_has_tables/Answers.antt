use Rattle.schema_laws.proofs.sound_demand.Kept.{tables_there}
use Rattle.schema_laws.proofs.sound_demand.a_state_without_a_clash_has_tables.Goals as goal

pub returns : goal.returns
returns c = record { made = tables_there }
