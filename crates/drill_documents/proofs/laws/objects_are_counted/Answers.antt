use Rattle.std.proofs.Common.{arith}
use Rattle.drill_documents.proofs.Counted.{documents_counted, people_counted}
use Rattle.drill_documents.proofs.laws.objects_are_counted.Goals as goal

pub returns : goal.returns
returns c = record {
  twice = λ seed count. record {
    as_many_people = people_counted seed count;
    as_many_documents = documents_counted seed count;
    twice_as_many = omega (arith, people_counted seed count, documents_counted seed count);
  };
}
