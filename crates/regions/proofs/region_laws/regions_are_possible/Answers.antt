use Rattle.regions.proofs.region_laws.listing.Possible.{atoms_fit, linked_hosts, may_link, must_link, of_set, type_fits}
use Rattle.regions.proofs.region_laws.regions_are_possible.Goals as goal

pub returns-clause-types : goal.returns-clause-types
returns-clause-types c = type_fits

pub returns-clause-sets : goal.returns-clause-sets
returns-clause-sets c = of_set

pub returns-clause-atoms : goal.returns-clause-atoms
returns-clause-atoms c = atoms_fit

pub returns-clause-hosts : goal.returns-clause-hosts
returns-clause-hosts c = linked_hosts

pub returns-clause-may : goal.returns-clause-may
returns-clause-may c = may_link

pub returns-clause-must : goal.returns-clause-must
returns-clause-must c = must_link
