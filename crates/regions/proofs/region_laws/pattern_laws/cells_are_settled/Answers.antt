use Rattle.regions.proofs.region_laws.pattern.Laws.{cell_free, cell_known, cell_one, described}
use Rattle.regions.proofs.region_laws.pattern_laws.cells_are_settled.Goals as goal

pub returns-clause-one : goal.returns-clause-one
returns-clause-one c = cell_one

pub returns-clause-known : goal.returns-clause-known
returns-clause-known c = cell_known

pub returns-clause-free : goal.returns-clause-free
returns-clause-free c = cell_free

pub returns-clause-described : goal.returns-clause-described
returns-clause-described c = described
