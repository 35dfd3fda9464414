use Rattle.schema_laws.proofs.state_demand.writings.NoClash.{Decides-no_clash}
use Rattle.schema_laws.proofs.state_demand.tables.ReadBack.{no_clash_from_none}
use Rattle.schema_laws.proofs.state_demand.clash_is_decided.Goals as goal

pub returns-clause-decided : goal.returns-clause-decided
returns-clause-decided c = Decides-no_clash

pub returns-clause-shown : goal.returns-clause-shown
returns-clause-shown c = no_clash_from_none
