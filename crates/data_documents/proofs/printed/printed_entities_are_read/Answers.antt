use Rattle.data_documents.proofs.printed.entities.States.{state_again}
use Rattle.data_documents.proofs.printed.printed_entities_are_read.Goals as goal

pub returns : goal.returns
returns c = record { again = state_again }
