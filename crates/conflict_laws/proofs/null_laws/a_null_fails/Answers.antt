use Rattle.conflict_laws.proofs.null.Failing.{null_fails, null_there}
use Rattle.conflict_laws.proofs.null_laws.a_null_fails.Goals as goal

pub returns-clause-fails : goal.returns-clause-fails
returns-clause-fails c = null_fails

pub returns-clause-there : goal.returns-clause-there
returns-clause-there c = null_there
