use Rattle.population.proofs.pruning.NeededParts.{holds_needed}
use Rattle.population.proofs.parts.parts_hold_what_is_needed.Goals as goal

pub returns : goal.returns
returns c = record { holds = holds_needed }
