use Rattle.population.proofs.pruning.PartHolds.{fails_in_rows}
use Rattle.population.proofs.pruning.Writers.{writers_are}
use Rattle.population.proofs.parts.failures_stand_in_parts.Goals as goal

pub returns : goal.returns
returns c = record { stand = fails_in_rows; writers = writers_are }
