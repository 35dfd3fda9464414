use Rattle.regions.proofs.region_laws.pattern.rows.Agreeing.{entity_agrees, host_agrees, link_agrees}
use Rattle.regions.proofs.region_laws.pattern_laws.agreement_is_by_regions.Goals as goal

pub returns-clause-entities : goal.returns-clause-entities
returns-clause-entities c = entity_agrees

pub returns-clause-hosts : goal.returns-clause-hosts
returns-clause-hosts c = host_agrees

pub returns-clause-links : goal.returns-clause-links
returns-clause-links c = link_agrees
