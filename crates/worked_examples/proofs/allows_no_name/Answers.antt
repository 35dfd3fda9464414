use Rattle.std.proofs.Common.{arith, []}
use Rattle.std.specs.Prelude.{codes}
use Rattle.round_trip.specs.Words.{Null, Text}
use Rattle.worked_examples.proofs.facts.Values.{text_a}
use Rattle.worked_examples.proofs.people.People.{may_stand, no_name, a_name, legal_people, ids_differ}
use Rattle.worked_examples.proofs.allows_no_name.Goals as goal

pub returns : goal.returns
returns c = record {
  legal = legal_people _
      (may_stand 1 _ (omega arith) (a_name _ text_a), (may_stand 2 _ (omega arith) no_name, tt))
      ((ids_differ [] 1 2 (Text (codes "a")) Null (omega arith), tt), (tt, tt));
}
