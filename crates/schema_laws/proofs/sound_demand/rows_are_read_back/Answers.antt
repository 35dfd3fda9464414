use Rattle.schema_laws.proofs.sound_demand.ReadBack.{rows_of, rows_of_links}
use Rattle.schema_laws.proofs.sound_demand.rows_are_read_back.Goals as goal

pub returns-clause-entities : goal.returns-clause-entities
returns-clause-entities c = rows_of

pub returns-clause-links : goal.returns-clause-links
returns-clause-links c = rows_of_links
