use Rattle.drill_documents.proofs.Counted.{items_of_array}
use Rattle.drill_documents.specs.Lists.{changes}
use Rattle.drill_documents.proofs.laws.changes_are_told.Goals as goal

pub returns : goal.returns
returns c = record { items = λ seed count. items_of_array (changes seed count) }
