use Rattle.worked_examples.proofs.staff.TypeLost.{type_is_lost}
use Rattle.worked_examples.proofs.loses_a_type.Goals as goal

pub returns : goal.returns
returns c = record { fails = type_is_lost }
