use Rattle.entity_changes.proofs.same.States.{states_after}
use Rattle.entity_changes.proofs.laws.changed_states_are_states.Goals as goal

pub returns : goal.returns
returns c = λ model state is changes. states_after model changes state is
