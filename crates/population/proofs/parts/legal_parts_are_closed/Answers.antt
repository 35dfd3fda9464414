use Rattle.population.proofs.pruning.KeptLegal.{legal_where_closed}
use Rattle.population.proofs.parts.legal_parts_are_closed.Goals as goal

pub returns : goal.returns
returns c = record { closed = legal_where_closed }
