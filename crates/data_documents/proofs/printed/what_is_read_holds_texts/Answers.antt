use Rattle.data_documents.proofs.printed.texts.Nodes.{read_of_bytes}
use Rattle.data_documents.proofs.printed.what_is_read_holds_texts.Goals as goal

pub returns : goal.returns
returns c = record { texts = read_of_bytes }
