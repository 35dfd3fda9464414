use Rattle.std.proofs.Common.{arith}
use Rattle.std.proofs.lemmas.Grind.{common_steps}
use Rattle.table_files.proofs.table_legality.rows.cells_of.Goals as goal

pub loop-col-preserved : goal.loop-col-preserved
loop-col-preserved c = grind (arith, common_steps)

pub returns : goal.returns
returns c = grind (arith, common_steps)
