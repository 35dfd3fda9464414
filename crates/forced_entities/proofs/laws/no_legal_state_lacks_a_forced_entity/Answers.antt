use Rattle.forced_entities.proofs.Holds.{entity_forces, link_forces, own_stands}
use Rattle.forced_entities.proofs.laws.no_legal_state_lacks_a_forced_entity.Goals as goal

pub returns-clause-own : goal.returns-clause-own
returns-clause-own c = own_stands

pub returns-clause-entities : goal.returns-clause-entities
returns-clause-entities c = entity_forces

pub returns-clause-links : goal.returns-clause-links
returns-clause-links c = link_forces
