use Rattle.schema_laws.proofs.state_demand.tables.ByRows.{fragment_by_rows, link_fragment_by_rows}
use Rattle.schema_laws.proofs.state_demand.agreement_is_by_rows.Goals as goal

pub returns-clause-fragments : goal.returns-clause-fragments
returns-clause-fragments c = fragment_by_rows

pub returns-clause-links : goal.returns-clause-links
returns-clause-links c = link_fragment_by_rows
