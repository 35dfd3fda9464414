use Rattle.region_states.proofs.defaults.Fitting.{joined_takes}
use Rattle.region_states.proofs.default_values.joined_values_fit.Goals as goal

pub returns : goal.returns
returns c = record { joined = joined_takes }
