use Rattle.failure_laws.proofs.places.There.{links_fail, set_fails, there}
use Rattle.failure_laws.proofs.failure_places.each_failure_is_somewhere.Goals as goal

pub returns-clause-there : goal.returns-clause-there
returns-clause-there c = there

pub returns-clause-fails : goal.returns-clause-fails
returns-clause-fails c = set_fails

pub returns-clause-links_fail : goal.returns-clause-links_fail
returns-clause-links_fail c = links_fail
