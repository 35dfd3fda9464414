use Rattle.conflict_laws.proofs.clash.Clear.{region_clear}
use Rattle.conflict_laws.proofs.clash_laws.patterns_are_clear.Goals as goal

pub returns : goal.returns
returns c = record { clear = region_clear }
