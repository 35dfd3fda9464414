use Rattle.schema_laws.proofs.state_demand.tables.Good.{legal_tables, satisfied, stored}
use Rattle.schema_laws.proofs.state_demand.tables_are_good.Goals as goal

pub returns-clause-legal : goal.returns-clause-legal
returns-clause-legal c = legal_tables

pub returns-clause-satisfied : goal.returns-clause-satisfied
returns-clause-satisfied c = satisfied

pub returns-clause-stored : goal.returns-clause-stored
returns-clause-stored c = stored
