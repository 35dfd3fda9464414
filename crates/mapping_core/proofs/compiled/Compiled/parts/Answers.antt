use Rattle.mapping_core.proofs.MadeOf.{query_views_stand, regions_stand, update_views_stand}
use Rattle.mapping_core.proofs.compiled.Compiled.parts.Goals as goal

pub returns-clause-regions : goal.returns-clause-regions
returns-clause-regions c = regions_stand c.self.inside.schema c.self.inside.cells c.self.inside.regions c.self.invariant.2.has

pub returns-clause-update_views : goal.returns-clause-update_views
returns-clause-update_views c = update_views_stand c.self.inside.schema c.self.inside.cells c.self.inside.regions c.self.inside.views c.self.invariant.2

pub returns-clause-query_views : goal.returns-clause-query_views
returns-clause-query_views c = query_views_stand c.self.inside.schema c.self.inside.cells c.self.inside.regions c.self.inside.views c.self.invariant.2
