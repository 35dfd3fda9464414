use Rattle.conflict_laws.proofs.disagreement.Told.{told}
use Rattle.conflict_laws.proofs.disagreement_laws.a_disagreement_is_told.Goals as goal

pub returns : goal.returns
returns c = record { told = told }
