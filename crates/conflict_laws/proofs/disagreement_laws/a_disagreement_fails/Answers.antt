use Rattle.conflict_laws.proofs.disagreement.Failing.{fails, there}
use Rattle.conflict_laws.proofs.disagreement_laws.a_disagreement_fails.Goals as goal

pub returns-clause-fails : goal.returns-clause-fails
returns-clause-fails c = fails

pub returns-clause-there : goal.returns-clause-there
returns-clause-there c = there
