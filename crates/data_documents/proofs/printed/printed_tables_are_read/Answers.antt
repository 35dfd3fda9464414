use Rattle.data_documents.proofs.printed.Tables.{tables_again}
use Rattle.data_documents.proofs.printed.printed_tables_are_read.Goals as goal

pub returns : goal.returns
returns c = record { again = tables_again }
