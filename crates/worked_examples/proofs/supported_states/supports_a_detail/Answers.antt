use Rattle.worked_examples.proofs.supported_states.Details as example
use Rattle.worked_examples.proofs.supported_states.sound.Details.{sound}
use Rattle.worked_examples.proofs.supported_states.supports_a_detail.Goals as goal

pub returns : goal.returns
returns c = record { sound = sound; first = example.asks_first; asks = example.asks; stands = example.stands; legal = example.legal }
