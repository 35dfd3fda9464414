use Rattle.conflict_laws.proofs.same.lost.Lost.{lost_fails}
use Rattle.conflict_laws.proofs.same_laws.lost_values_fail.Goals as goal

pub returns : goal.returns
returns c = record { fails = lost_fails }
