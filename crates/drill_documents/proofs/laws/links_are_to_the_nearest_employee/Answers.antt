use Rattle.drill_documents.proofs.Counted.{last_is_nearest}
use Rattle.drill_documents.proofs.laws.links_are_to_the_nearest_employee.Goals as goal

pub returns : goal.returns
returns c = record { nearest = last_is_nearest }
