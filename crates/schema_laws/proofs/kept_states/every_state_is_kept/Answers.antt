use Rattle.schema_laws.proofs.kept_states.Apart.{keeps}
use Rattle.schema_laws.proofs.kept_states.every_state_is_kept.Goals as goal

pub returns : goal.returns
returns c = record { keeps = keeps }
