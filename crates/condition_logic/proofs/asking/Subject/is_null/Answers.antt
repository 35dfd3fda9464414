use Rattle.std.proofs.Common.{arith}
use Rattle.std.proofs.lemmas.Grind.{common_steps}
use Rattle.condition_logic.proofs.asking.Subject.is_null.Goals as goal

pub returns-in-Entity-Prop : goal.returns-in-Entity-Prop
returns-in-Entity-Prop c = grind (arith, common_steps)

pub returns-in-Row-Col : goal.returns-in-Row-Col
returns-in-Row-Col c = grind (arith, common_steps)

pub returns-in-Atoms-Prop : goal.returns-in-Atoms-Prop
returns-in-Atoms-Prop c = grind (arith, common_steps)

pub returns-in_default : goal.returns-in_default
returns-in_default c = grind (arith, common_steps)

pub returns-in_default-2 : goal.returns-in_default-2
returns-in_default-2 c = grind (arith, common_steps)

pub returns-in_default-3 : goal.returns-in_default-3
returns-in_default-3 c = grind (arith, common_steps)
