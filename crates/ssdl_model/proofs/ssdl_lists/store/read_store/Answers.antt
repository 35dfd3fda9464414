use Rattle.std.proofs.Common.{arith}
use Rattle.std.proofs.lemmas.Grind.{common_steps}
use Rattle.ssdl_model.proofs.ssdl_lists.store.read_store.Goals as goal

pub returns : goal.returns
returns c = grind (arith, common_steps)
