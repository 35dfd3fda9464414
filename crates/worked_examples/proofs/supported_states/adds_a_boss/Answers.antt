use Rattle.worked_examples.proofs.supported_states.Bosses as example
use Rattle.worked_examples.proofs.supported_states.adds_a_boss.Goals as goal

pub returns : goal.returns
returns c = record { stands = example.stands; legal = example.legal }
