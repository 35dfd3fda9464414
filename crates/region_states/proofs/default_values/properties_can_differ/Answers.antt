use Rattle.region_states.proofs.defaults.Changes.{changed_admissible, changed_key, differ_at, two_choices}
use Rattle.region_states.proofs.default_values.properties_can_differ.Goals as goal

pub returns-clause-choices : goal.returns-clause-choices
returns-clause-choices c = two_choices

pub returns-clause-alone : goal.returns-clause-alone
returns-clause-alone c = differ_at

pub returns-clause-together : goal.returns-clause-together
returns-clause-together c = changed_admissible

pub returns-clause-keys : goal.returns-clause-keys
returns-clause-keys c = changed_key
