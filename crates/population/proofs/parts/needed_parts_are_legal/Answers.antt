use Rattle.population.proofs.pruning.NeededParts.{needed_parts}
use Rattle.population.proofs.parts.needed_parts_are_legal.Goals as goal

pub returns : goal.returns
returns c = record { legal = needed_parts }
