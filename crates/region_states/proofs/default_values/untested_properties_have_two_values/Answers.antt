use Rattle.region_states.proofs.defaults.groups.Constants.{untested_two}
use Rattle.region_states.proofs.default_values.untested_properties_have_two_values.Goals as goal

pub returns : goal.returns
returns c = record { two = untested_two }
