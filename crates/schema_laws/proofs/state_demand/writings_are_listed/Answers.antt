use Rattle.schema_laws.proofs.state_demand.writings.Writings.{are_writings}
use Rattle.schema_laws.proofs.state_demand.writings_are_listed.Goals as goal

pub returns : goal.returns
returns c = record { listed = λ schema is_a decides state. are_writings is_a schema decides state }
