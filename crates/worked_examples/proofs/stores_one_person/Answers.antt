use Rattle.std.proofs.Common.{arith}
use Rattle.worked_examples.proofs.facts.Values.{text_a}
use Rattle.worked_examples.proofs.people.People.{may_stand, a_name, legal_people}
use Rattle.worked_examples.proofs.people.Stored as stored
use Rattle.worked_examples.proofs.stores_one_person.Goals as goal

pub returns : goal.returns
returns c = record {
  legal = legal_people _ (may_stand 1 _ (omega arith) (a_name _ text_a), tt) (tt, tt);
  demanded = stored.demanded;
  legal_tables = stored.legal;
  satisfied = stored.satisfied;
}
