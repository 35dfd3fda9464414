use Rattle.regions.proofs.region_laws.pattern.Laws.{symbol_possible}
use Rattle.regions.proofs.region_laws.pattern.values.Possible.{null_of_nullable}
use Rattle.regions.proofs.region_laws.pattern_laws.symbols_are_possible.Goals as goal

pub returns-clause-can_be : goal.returns-clause-can_be
returns-clause-can_be c = symbol_possible

pub returns-clause-nulls : goal.returns-clause-nulls
returns-clause-nulls c = null_of_nullable
