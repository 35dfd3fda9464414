use Rattle.population.proofs.principals.Asked.{principals_are}
use Rattle.population.proofs.principals_are_asked_for.Goals as goal

pub returns : goal.returns
returns c = record { asked = principals_are }
