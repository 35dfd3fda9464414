use Rattle.region_states.proofs.Entities.{admissible_by, has_value, symbol_value}
use Rattle.region_states.proofs.an_entity_has_its_values.Goals as goal

pub returns-clause-values : goal.returns-clause-values
returns-clause-values c = has_value

pub returns-clause-symbols : goal.returns-clause-symbols
returns-clause-symbols c = symbol_value

pub returns-clause-admissible : goal.returns-clause-admissible
returns-clause-admissible c = admissible_by
