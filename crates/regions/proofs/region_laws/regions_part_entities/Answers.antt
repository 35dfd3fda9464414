use Rattle.regions.proofs.region_laws.entities.Hosting.{hosted_are}
use Rattle.regions.proofs.region_laws.entities.Regions.{flag_none, flag_one, region_held, region_only}
use Rattle.regions.proofs.region_laws.regions_part_entities.Goals as goal

pub returns-clause-hosted : goal.returns-clause-hosted
returns-clause-hosted c = hosted_are

pub returns-clause-held : goal.returns-clause-held
returns-clause-held c = region_held

pub returns-clause-only : goal.returns-clause-only
returns-clause-only c = region_only

pub returns-clause-one : goal.returns-clause-one
returns-clause-one c = flag_one

pub returns-clause-none : goal.returns-clause-none
returns-clause-none c = flag_none
