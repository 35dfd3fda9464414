use Rattle.std.proofs.Common.{arith}
use Rattle.std.proofs.lemmas.Grind.{common_steps}
use Rattle.csdl_types.proofs.bounds.prop_breaks_bound.Goals as goal

pub returns : goal.returns
returns c = grind (arith, common_steps)
