use Rattle.schema_laws.proofs.sound_demand.Local.{is_local, is_local_to_links, local_demand}
use Rattle.schema_laws.proofs.sound_demand.demand_is_local.Goals as goal

pub returns-clause-tables : goal.returns-clause-tables
returns-clause-tables c = local_demand

pub returns-clause-entities : goal.returns-clause-entities
returns-clause-entities c = is_local

pub returns-clause-links : goal.returns-clause-links
returns-clause-links c = is_local_to_links
