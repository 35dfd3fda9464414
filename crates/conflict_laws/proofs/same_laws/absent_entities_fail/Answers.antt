use Rattle.conflict_laws.proofs.same.lost.Absent.{several_lost}
use Rattle.conflict_laws.proofs.same.lost.LeftOut.{absent_fails}
use Rattle.conflict_laws.proofs.same_laws.absent_entities_fail.Goals as goal

pub returns-clause-several : goal.returns-clause-several
returns-clause-several c = several_lost

pub returns-clause-none : goal.returns-clause-none
returns-clause-none c = absent_fails
