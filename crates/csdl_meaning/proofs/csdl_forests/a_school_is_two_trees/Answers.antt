use Rattle.std.proofs.Common.{refl}
use Rattle.csdl_meaning.proofs.csdl_forests.a_school_is_two_trees.Goals as goal

pub returns : goal.returns
returns c = record { trees = refl }
