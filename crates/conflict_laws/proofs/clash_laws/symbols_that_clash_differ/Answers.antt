use Rattle.conflict_laws.proofs.clash.Values.{values_differ}
use Rattle.conflict_laws.proofs.clash_laws.symbols_that_clash_differ.Goals as goal

pub returns : goal.returns
returns c = record { values = values_differ }
