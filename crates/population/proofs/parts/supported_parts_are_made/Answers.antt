use Rattle.population.proofs.made.Linked.{needs_made}
use Rattle.population.proofs.made.Parts.{part_is_made}
use Rattle.population.proofs.parts.supported_parts_are_made.Goals as goal

pub returns : goal.returns
returns c = record { needs = needs_made; part = part_is_made }
