use Rattle.population.proofs.supporting.Legal.{supported_legal}
use Rattle.population.proofs.supported_states_are_legal.Goals as goal

pub returns : goal.returns
returns c = record { legal = supported_legal }
