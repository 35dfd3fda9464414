use Rattle.table_files.proofs.table_legality.Kept.{no_breach}
use Rattle.table_files.proofs.table_legality.first.legal_tables_have_no_breach.Goals as goal

pub returns : goal.returns
returns c = λ store tables breach legal. no_breach store tables legal breach
