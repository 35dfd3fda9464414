use Rattle.regions.proofs.region_laws.entities.Partners.{has_partners}
use Rattle.regions.proofs.region_laws.writings.Patterns.{link_pattern, region_pattern}
use Rattle.regions.proofs.region_laws.patterns_are_demand.Goals as goal

pub returns-clause-region : goal.returns-clause-region
returns-clause-region c = region_pattern

pub returns-clause-link : goal.returns-clause-link
returns-clause-link c = link_pattern

pub returns-clause-partners : goal.returns-clause-partners
returns-clause-partners c = has_partners
