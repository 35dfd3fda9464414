use Rattle.region_states.proofs.region_basis.Links.{links_of_basis}
use Rattle.region_states.proofs.region_basis.hosted_links_are_those_of_the_basis.Goals as goal

pub returns : goal.returns
returns c = record { links = λ parts are state s entity. links_of_basis parts are state s entity }
