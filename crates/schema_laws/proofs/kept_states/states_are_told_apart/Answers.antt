use Rattle.schema_laws.proofs.kept_states.Apart.{same_state}
use Rattle.schema_laws.proofs.kept_states.states_are_told_apart.Goals as goal

pub returns : goal.returns
returns c = record { apart = same_state }
