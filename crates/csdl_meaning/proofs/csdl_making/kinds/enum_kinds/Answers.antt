use Rattle.std.proofs.Common.{arith}
use Rattle.std.proofs.lemmas.Grind.{common_steps}
use Rattle.csdl_meaning.proofs.csdl_making.kinds.enum_kinds.Goals as goal

pub loop-enumeration-preserved : goal.loop-enumeration-preserved
loop-enumeration-preserved c = grind (arith, common_steps)

pub returns : goal.returns
returns c = grind (arith, common_steps)
