use Rattle.worked_examples.proofs.people.NameUnwritten.{name_is_lost}
use Rattle.worked_examples.proofs.loses_an_unwritten_name.Goals as goal

pub returns : goal.returns
returns c = record { fails = name_is_lost }
