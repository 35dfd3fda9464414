use Rattle.schema_laws.proofs.state_demand.owners.Joined.{local_link, one_link}
use Rattle.schema_laws.proofs.state_demand.links_are_local.Goals as goal

pub returns-clause-local : goal.returns-clause-local
returns-clause-local c = local_link

pub returns-clause-one : goal.returns-clause-one
returns-clause-one c = one_link
