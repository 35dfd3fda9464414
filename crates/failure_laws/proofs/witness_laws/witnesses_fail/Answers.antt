use Rattle.failure_laws.proofs.witness.Shown.{witness_fails}
use Rattle.failure_laws.proofs.witness_laws.witnesses_fail.Goals as goal

pub returns : goal.returns
returns c = record { fails = witness_fails }
