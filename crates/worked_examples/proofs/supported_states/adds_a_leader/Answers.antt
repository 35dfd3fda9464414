use Rattle.worked_examples.proofs.supported_states.Leaders as example
use Rattle.worked_examples.proofs.supported_states.sound.Leaders.{sound}
use Rattle.worked_examples.proofs.supported_states.adds_a_leader.Goals as goal

pub returns : goal.returns
returns c = record { sound = sound; stands = example.stands; legal = example.legal }
