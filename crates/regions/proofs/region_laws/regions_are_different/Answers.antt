use Rattle.regions.proofs.region_laws.listing.Apart.{regions_apart}
use Rattle.regions.proofs.region_laws.regions_are_different.Goals as goal

pub returns : goal.returns
returns c = record { once = regions_apart }
