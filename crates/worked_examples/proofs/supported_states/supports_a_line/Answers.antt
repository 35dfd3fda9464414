use Rattle.worked_examples.proofs.supported_states.Accounts as example
use Rattle.worked_examples.proofs.supported_states.sound.Accounts.{sound}
use Rattle.worked_examples.proofs.supported_states.supports_a_line.Goals as goal

pub returns : goal.returns
returns c = record { sound = sound; first = example.asks_first; asks = example.asks; stands = example.stands; legal = example.legal; numbered = example.numbered_is_taken }
