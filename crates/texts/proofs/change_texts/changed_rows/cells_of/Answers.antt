use Rattle.std.proofs.Common.{arith}
use Rattle.std.proofs.lemmas.Grind.{common_steps}
use Rattle.texts.proofs.change_texts.changed_rows.cells_of.Goals as goal

pub loop-col-preserved : goal.loop-col-preserved
loop-col-preserved c = grind (arith, common_steps)

pub returns : goal.returns
returns c = grind (arith, common_steps)
