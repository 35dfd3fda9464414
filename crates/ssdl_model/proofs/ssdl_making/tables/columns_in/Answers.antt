use Rattle.std.proofs.Common.{arith}
use Rattle.std.proofs.lemmas.Grind.{common_steps}
use Rattle.ssdl_model.proofs.ssdl_making.tables.columns_in.Goals as goal

pub loop-prop-preserved : goal.loop-prop-preserved
loop-prop-preserved c = grind (arith, common_steps)

pub returns : goal.returns
returns c = grind (arith, common_steps)
