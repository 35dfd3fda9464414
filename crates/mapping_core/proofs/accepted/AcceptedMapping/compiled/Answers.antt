use Rattle.mapping_core.proofs.MadeOf.{made_by, regions_stand}
use Rattle.mapping_core.proofs.accepted.AcceptedMapping.compiled.Goals as goal

pub views_of-requires-clause-regions : goal.views_of-requires-clause-regions
views_of-requires-clause-regions c = regions_stand c.self.inside.schema c.self.inside.cells c.self.inside.regions c.self.invariant.2

pub new-requires-clause-made : goal.new-requires-clause-made
new-requires-clause-made c = made_by c.self.inside.schema c.self.inside.cells c.self.inside.regions c.self.invariant.2 c.in-Ok.views c.in-Ok.ensures.update c.in-Ok.ensures.query
