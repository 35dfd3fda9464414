use Rattle.schema_laws.proofs.sound_demand.tuples.Disagreeing.{fails_at_entities, tuples_of_entities, tuples_of_hosts, tuples_of_links}
use Rattle.schema_laws.proofs.sound_demand.a_disagreement_stands_at_a_row.Goals as goal

pub returns-clause-entities : goal.returns-clause-entities
returns-clause-entities c = tuples_of_entities

pub returns-clause-failing : goal.returns-clause-failing
returns-clause-failing c = fails_at_entities

pub returns-clause-hosted : goal.returns-clause-hosted
returns-clause-hosted c = tuples_of_hosts

pub returns-clause-joined : goal.returns-clause-joined
returns-clause-joined c = tuples_of_links
