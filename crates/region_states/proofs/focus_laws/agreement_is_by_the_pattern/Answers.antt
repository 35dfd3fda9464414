use Rattle.region_states.proofs.focus.Agreeing.{entity_agrees, host_agrees, joined_agrees}
use Rattle.region_states.proofs.focus_laws.agreement_is_by_the_pattern.Goals as goal

pub returns-clause-entities : goal.returns-clause-entities
returns-clause-entities c = entity_agrees

pub returns-clause-hosts : goal.returns-clause-hosts
returns-clause-hosts c = host_agrees

pub returns-clause-links : goal.returns-clause-links
returns-clause-links c = joined_agrees
