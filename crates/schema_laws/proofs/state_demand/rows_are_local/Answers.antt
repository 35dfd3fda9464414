use Rattle.schema_laws.proofs.state_demand.owners.Owners.{local, one, whole}
use Rattle.schema_laws.proofs.state_demand.rows_are_local.Goals as goal

pub returns-clause-local : goal.returns-clause-local
returns-clause-local c = local

pub returns-clause-one : goal.returns-clause-one
returns-clause-one c = one

pub returns-clause-whole : goal.returns-clause-whole
returns-clause-whole c = whole
