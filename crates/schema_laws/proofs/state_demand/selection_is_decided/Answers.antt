use Rattle.schema_laws.proofs.state_demand.writings.Selecting.{Decides-key, Decides-selects, Decides-value}
use Rattle.schema_laws.proofs.state_demand.selection_is_decided.Goals as goal

pub returns-clause-values : goal.returns-clause-values
returns-clause-values c = Decides-value

pub returns-clause-keys : goal.returns-clause-keys
returns-clause-keys c = Decides-key

pub returns-clause-selects : goal.returns-clause-selects
returns-clause-selects c = Decides-selects
