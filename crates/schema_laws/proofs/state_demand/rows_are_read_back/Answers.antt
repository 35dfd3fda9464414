use Rattle.schema_laws.proofs.state_demand.tables.ReadBack.{cells_told, rows_told}
use Rattle.schema_laws.proofs.state_demand.rows_are_read_back.Goals as goal

pub returns-clause-rows : goal.returns-clause-rows
returns-clause-rows c = rows_told

pub returns-clause-cells : goal.returns-clause-cells
returns-clause-cells c = cells_told
