use Rattle.conflict_laws.proofs.Exact.{exact}
use Rattle.conflict_laws.proofs.conflicts_are_exact.Goals as goal

pub returns : goal.returns
returns c = record { exact = exact }
