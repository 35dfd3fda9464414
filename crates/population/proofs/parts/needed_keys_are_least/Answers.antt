use Rattle.population.proofs.pruning.Needed.{needed_keys_least}
use Rattle.population.proofs.pruning.NeededBy.{all_needed_by}
use Rattle.population.proofs.parts.needed_keys_are_least.Goals as goal

pub returns : goal.returns
returns c = record { least = needed_keys_least; asked = all_needed_by }
