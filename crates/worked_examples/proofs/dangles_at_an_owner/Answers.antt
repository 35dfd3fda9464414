use Rattle.worked_examples.proofs.staff.Owners.{owner_dangles}
use Rattle.worked_examples.proofs.dangles_at_an_owner.Goals as goal

pub returns : goal.returns
returns c = record { fails = owner_dangles }
