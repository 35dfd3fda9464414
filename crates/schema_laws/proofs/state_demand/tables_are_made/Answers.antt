use Rattle.schema_laws.specs.state_demand.Writings.{writings_of}
use Rattle.schema_laws.proofs.state_demand.tables.Tables.{tables_are}
use Rattle.schema_laws.proofs.state_demand.writings.Writings.{are_writings}
use Rattle.schema_laws.proofs.state_demand.tables_are_made.Goals as goal

pub returns-clause-by_list : goal.returns-clause-by_list
returns-clause-by_list c = tables_are

pub returns-clause-made : goal.returns-clause-made
returns-clause-made c = λ schema is_a fits decides state. tables_are schema fits state (writings_of is_a schema state) (are_writings is_a schema decides state)
