use Rattle.cells.proofs.Hosting.{hosted_here}
use Rattle.cells.proofs.laws.hosted_links_are_those_of_the_mapping.Goals as goal

pub returns : goal.returns
returns c = record { each = λ schema sound cells tells state set key hosted. hosted_here schema sound cells tells state set key hosted }
