use Rattle.schema_laws.proofs.state_demand.tables.SameTables.{same_tables}
use Rattle.schema_laws.proofs.state_demand.tables_are_one.Goals as goal

pub returns : goal.returns
returns c = record { same = same_tables }
