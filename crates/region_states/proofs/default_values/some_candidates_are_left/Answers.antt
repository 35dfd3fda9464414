use Rattle.region_states.proofs.defaults.Fitting.{candidates_left}
use Rattle.region_states.proofs.default_values.some_candidates_are_left.Goals as goal

pub returns : goal.returns
returns c = record { left = candidates_left }
