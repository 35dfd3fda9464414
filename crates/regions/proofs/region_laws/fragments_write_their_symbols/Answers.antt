use Rattle.regions.proofs.region_laws.writings.Concrete.{entity_concrete, link_concrete}
use Rattle.regions.proofs.region_laws.fragments_write_their_symbols.Goals as goal

pub returns-clause-entity : goal.returns-clause-entity
returns-clause-entity c = entity_concrete

pub returns-clause-link : goal.returns-clause-link
returns-clause-link c = link_concrete
