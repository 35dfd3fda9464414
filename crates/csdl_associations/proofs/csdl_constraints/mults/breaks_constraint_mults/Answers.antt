use Rattle.std.proofs.Common.{arith}
use Rattle.std.proofs.lemmas.Grind.{common_steps}
use Rattle.csdl_associations.proofs.csdl_constraints.mults.breaks_constraint_mults.Goals as goal

pub returns : goal.returns
returns c = grind (arith, common_steps)
