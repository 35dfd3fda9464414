use Rattle.region_states.proofs.defaults.Valued.{value_there}
use Rattle.region_states.proofs.default_values.each_atom_has_a_value.Goals as goal

pub returns : goal.returns
returns c = record { value = value_there }
