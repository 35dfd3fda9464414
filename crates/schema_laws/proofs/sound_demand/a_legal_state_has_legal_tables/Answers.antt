use Rattle.schema_laws.proofs.sound_demand.Kept.{legal_made}
use Rattle.schema_laws.proofs.sound_demand.a_legal_state_has_legal_tables.Goals as goal

pub returns : goal.returns
returns c = record { made = legal_made }
