use Rattle.region_states.proofs.defaults.Defaults.{default_admissible, default_key}
use Rattle.region_states.proofs.default_values.each_region_has_values.Goals as goal

pub returns-clause-values : goal.returns-clause-values
returns-clause-values c = default_admissible

pub returns-clause-keys : goal.returns-clause-keys
returns-clause-keys c = default_key
