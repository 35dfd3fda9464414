use Rattle.conflict_laws.proofs.rival.Told.{told_one, told_same}
use Rattle.conflict_laws.proofs.rival_laws.regions_are_told_apart.Goals as goal

pub returns-clause-same : goal.returns-clause-same
returns-clause-same c = told_same

pub returns-clause-one : goal.returns-clause-one
returns-clause-one c = told_one
