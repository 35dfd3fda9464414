use Rattle.population.proofs.pruning.NeededParts.{are_alike}
use Rattle.population.proofs.parts.parts_by_one_list_are_alike.Goals as goal

pub returns : goal.returns
returns c = record { alike = are_alike }
