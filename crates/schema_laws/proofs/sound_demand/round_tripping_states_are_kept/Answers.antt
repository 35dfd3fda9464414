use Rattle.schema_laws.proofs.sound_demand.Kept.{all_stored}
use Rattle.schema_laws.proofs.sound_demand.round_tripping_states_are_kept.Goals as goal

pub returns : goal.returns
returns c = record { stored = all_stored }
