use Rattle.std.proofs.Common.{refl}
use Rattle.csdl_model.proofs.csdl_sound.classes.ClassesKeep.{classes_keep}
use Rattle.csdl_model.proofs.csdl_sound.classes_are_meant.Goals as goal

pub returns : goal.returns
returns c = record { sets = refl; assocs = refl; forest = refl; keeps = classes_keep }
