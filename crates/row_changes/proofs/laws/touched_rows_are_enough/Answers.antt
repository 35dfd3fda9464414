use Rattle.row_changes.proofs.joining.Parts.{same_changes, same_precedence}
use Rattle.row_changes.proofs.laws.touched_rows_are_enough.Goals as goal

pub returns-clause-changes : goal.returns-clause-changes
returns-clause-changes c = same_changes

pub returns-clause-precedes : goal.returns-clause-precedes
returns-clause-precedes c = same_precedence
