use Rattle.std.proofs.Common.{arith}
use Rattle.worked_examples.proofs.facts.Values.{text_20}
use Rattle.worked_examples.proofs.people.People.{may_stand, a_name, legal_people, too_long}
use Rattle.worked_examples.proofs.counts_characters.Goals as goal

pub returns-clause-twenty : goal.returns-clause-twenty
returns-clause-twenty c = legal_people _ (may_stand 1 _ (omega arith) (a_name _ text_20), tt) (tt, tt)

pub returns-clause-twenty_one : goal.returns-clause-twenty_one
returns-clause-twenty_one c = too_long
