use Rattle.conflict_laws.proofs.same.There.{same_there}
use Rattle.conflict_laws.proofs.same.ToldThere.{same_told}
use Rattle.conflict_laws.proofs.same_laws.same_tables_are_told.Goals as goal

pub returns-clause-there : goal.returns-clause-there
returns-clause-there c = same_there

pub returns-clause-told : goal.returns-clause-told
returns-clause-told c = same_told
