use Rattle.region_partition.proofs.region_search.Holding.{equal_holds}
use Rattle.region_partition.proofs.region_search.RegionOrder.{holds_equal, regions_rise}
use Rattle.region_partition.proofs.region_search.laws.regions_stand_in_order.Goals as goal

pub returns-clause-order : goal.returns-clause-order
returns-clause-order c basis is s entity links = regions_rise basis is entity links s

pub returns-clause-held : goal.returns-clause-held
returns-clause-held c basis is s entity links region has = (equal_holds basis is entity links s region has, holds_equal basis is entity links s region has)
