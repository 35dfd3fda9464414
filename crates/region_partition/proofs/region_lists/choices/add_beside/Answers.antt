use Rattle.std.proofs.Common.{arith}
use Rattle.std.proofs.lemmas.Grind.{common_steps}
use Rattle.region_partition.proofs.region_lists.choices.add_beside.Goals as goal

pub loop-second-preserved : goal.loop-second-preserved
loop-second-preserved g c = grind (arith, common_steps)

pub returns : goal.returns
returns g c = grind (arith, common_steps)
