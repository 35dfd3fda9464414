use Rattle.std.proofs.Common.{arith}
use Rattle.std.proofs.lemmas.Grind.{common_steps}
use Rattle.entity_state.proofs.state_tree.link_tree.Goals as goal

pub returns : goal.returns
returns c = grind (arith, common_steps)
