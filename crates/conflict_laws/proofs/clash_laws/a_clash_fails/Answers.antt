use Rattle.conflict_laws.proofs.clash.Fails.{fails_at, fails_there}
use Rattle.conflict_laws.proofs.clash_laws.a_clash_fails.Goals as goal

pub returns-clause-fails : goal.returns-clause-fails
returns-clause-fails c = fails_at

pub returns-clause-there : goal.returns-clause-there
returns-clause-there c = fails_there
