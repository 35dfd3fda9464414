use Rattle.conflict_laws.proofs.null.Telling.{null_told}
use Rattle.conflict_laws.proofs.null_laws.a_null_is_told.Goals as goal

pub returns : goal.returns
returns c = record { told = null_told }
