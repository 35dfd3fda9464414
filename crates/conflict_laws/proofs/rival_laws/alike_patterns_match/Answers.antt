use Rattle.conflict_laws.proofs.rival.Alike.{alike_match}
use Rattle.conflict_laws.proofs.rival_laws.alike_patterns_match.Goals as goal

pub returns : goal.returns
returns c = record { cells = alike_match }
