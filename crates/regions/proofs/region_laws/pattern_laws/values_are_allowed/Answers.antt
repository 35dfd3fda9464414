use Rattle.regions.proofs.region_laws.pattern.values.Allowed.{link_allowed, partners_told, region_allowed}
use Rattle.regions.proofs.region_laws.pattern_laws.values_are_allowed.Goals as goal

pub returns-clause-entities : goal.returns-clause-entities
returns-clause-entities c = region_allowed

pub returns-clause-links : goal.returns-clause-links
returns-clause-links c = link_allowed

pub returns-clause-partners : goal.returns-clause-partners
returns-clause-partners c = partners_told
