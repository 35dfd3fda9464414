use Rattle.drill_documents.proofs.Counted.{changes_counted}
use Rattle.drill_documents.proofs.laws.changes_are_counted.Goals as goal

pub returns : goal.returns
returns c = record { counted = changes_counted }
