use Rattle.conflict_laws.proofs.same.rivals.RivalsFail.{rivals_fail}
use Rattle.conflict_laws.proofs.same_laws.rivals_fail.Goals as goal

pub returns : goal.returns
returns c = record { fails = rivals_fail }
