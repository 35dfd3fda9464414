use Rattle.worked_examples.proofs.supported_states.Contacts as example
use Rattle.worked_examples.proofs.supported_states.sound.Contacts.{sound}
use Rattle.worked_examples.proofs.supported_states.supports_with_a_concrete_type.Goals as goal

pub returns : goal.returns
returns c = record { sound = sound; asks = example.asks; concrete = example.is_concrete; stands = example.stands; legal = example.legal }
