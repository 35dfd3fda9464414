use Rattle.worked_examples.proofs.people.LongName.{long_name_is_told}
use Rattle.worked_examples.proofs.tells_a_long_name.Goals as goal

pub returns : goal.returns
returns c = record { told = long_name_is_told }
