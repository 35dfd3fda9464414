use Rattle.std.proofs.Common.{arith}
use Rattle.std.proofs.lemmas.Grind.{common_steps}
use Rattle.table_owners.proofs.places.places_without.Goals as goal

pub loop-assoc-preserved : goal.loop-assoc-preserved
loop-assoc-preserved c = grind (arith, common_steps)

pub returns : goal.returns
returns c = grind (arith, common_steps)
