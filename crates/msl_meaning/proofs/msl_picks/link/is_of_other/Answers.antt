use Rattle.std.proofs.Common.{arith}
use Rattle.std.proofs.lemmas.Grind.{common_steps}
use Rattle.msl_meaning.proofs.msl_picks.link.is_of_other.Goals as goal

pub returns : goal.returns
returns c = grind (arith, common_steps)
