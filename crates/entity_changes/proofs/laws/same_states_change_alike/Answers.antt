use Rattle.entity_changes.proofs.same.SameChange.{accepted_alike, leads_alike}
use Rattle.entity_changes.proofs.laws.same_states_change_alike.Goals as goal

pub returns : goal.returns
returns c = record { accepted = accepted_alike; leads = leads_alike }
