use Rattle.worked_examples.proofs.people.NameShown.{null_name_is_hidden}
use Rattle.worked_examples.proofs.hides_a_null_name.Goals as goal

pub returns : goal.returns
returns c = record { fails = null_name_is_hidden }
