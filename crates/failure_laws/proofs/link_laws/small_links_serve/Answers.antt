use Rattle.failure_laws.proofs.links.SmallLinks.{small_differ, small_holds, small_two_hold}
use Rattle.failure_laws.proofs.link_laws.small_links_serve.Goals as goal

pub returns-clause-one : goal.returns-clause-one
returns-clause-one c = small_holds

pub returns-clause-two : goal.returns-clause-two
returns-clause-two c = small_two_hold

pub returns-clause-differ : goal.returns-clause-differ
returns-clause-differ c = small_differ
