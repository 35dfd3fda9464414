use Rattle.std.proofs.Common.{arith}
use Rattle.std.proofs.lemmas.Grind.{common_steps}
use Rattle.region_partition.proofs.region_lists.listing.add_linked.Goals as goal

pub loop-assocs-preserved : goal.loop-assocs-preserved
loop-assocs-preserved c = grind (arith, common_steps)

pub returns : goal.returns
returns c = grind (arith, common_steps)
