use Rattle.regions.proofs.region_laws.listing.Counted.{regions_capped, regions_counted}
use Rattle.regions.proofs.region_laws.regions_are_counted.Goals as goal

pub returns-clause-counted : goal.returns-clause-counted
returns-clause-counted c = regions_counted

pub returns-clause-capped : goal.returns-clause-capped
returns-clause-capped c = regions_capped
