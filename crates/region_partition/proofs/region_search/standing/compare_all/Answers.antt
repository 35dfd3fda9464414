use Rattle.std.proofs.Common.{arith}
use Rattle.std.proofs.lemmas.Grind.{common_steps}
use Rattle.region_partition.proofs.region_search.standing.compare_all.Goals as goal

pub loop-told-preserved : goal.loop-told-preserved
loop-told-preserved c = grind (arith, common_steps)

pub returns : goal.returns
returns c = grind (arith, common_steps)
