use Rattle.conflict_laws.proofs.clash.Told.{clash_told}
use Rattle.conflict_laws.proofs.clash_laws.a_clash_is_told.Goals as goal

pub returns : goal.returns
returns c = record { told = clash_told }
