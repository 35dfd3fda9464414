use Rattle.population.proofs.supporting.LinkStates.{link_holds, links_differ, two_hold}
use Rattle.population.proofs.link_states.links_can_stand.Goals as goal

pub returns-clause-one : goal.returns-clause-one
returns-clause-one c = link_holds

pub returns-clause-two : goal.returns-clause-two
returns-clause-two c = two_hold

pub returns-clause-differ : goal.returns-clause-differ
returns-clause-differ c = links_differ
