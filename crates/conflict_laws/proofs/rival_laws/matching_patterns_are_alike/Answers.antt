use Rattle.conflict_laws.proofs.rival.Rivals.{rival_keys, rivals_admissible}
use Rattle.conflict_laws.proofs.rival.Written.{written_alike}
use Rattle.conflict_laws.proofs.rival_laws.matching_patterns_are_alike.Goals as goal

pub returns-clause-admissible : goal.returns-clause-admissible
returns-clause-admissible c = rivals_admissible

pub returns-clause-key : goal.returns-clause-key
returns-clause-key c = rival_keys

pub returns-clause-alike : goal.returns-clause-alike
returns-clause-alike c = written_alike
