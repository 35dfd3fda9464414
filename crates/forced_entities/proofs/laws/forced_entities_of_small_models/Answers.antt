use Rattle.std.proofs.Common.{refl}
use Rattle.forced_entities.proofs.laws.forced_entities_of_small_models.Goals as goal

pub returns-clause-lines : goal.returns-clause-lines
returns-clause-lines c = refl

pub returns-clause-managed : goal.returns-clause-managed
returns-clause-managed c = refl

pub returns-clause-alone : goal.returns-clause-alone
returns-clause-alone c = refl
