use Rattle.std.proofs.Common.{arith}
use Rattle.std.proofs.lemmas.Grind.{common_steps}
use Rattle.csdl_meaning.proofs.csdl_making.types.navs_of.Goals as goal

pub loop-nav-preserved : goal.loop-nav-preserved
loop-nav-preserved c = grind (arith, common_steps)

pub returns : goal.returns
returns c = grind (arith, common_steps)
