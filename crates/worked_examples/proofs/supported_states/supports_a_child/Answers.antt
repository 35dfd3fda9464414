use Rattle.worked_examples.proofs.supported_states.Parents as example
use Rattle.worked_examples.proofs.supported_states.sound.Parents.{sound}
use Rattle.worked_examples.proofs.supported_states.supports_a_child.Goals as goal

pub returns : goal.returns
returns c = record { sound = sound; line_asks = example.line_asks; asks = example.asks; own_parent = example.own_is_taken; stands = example.stands; legal = example.legal }
