use Rattle.std.proofs.Common.{refl}
use Rattle.ssdl_model.proofs.ssdl_sound.shelves.ShelvesKeep.{shelves_keep}
use Rattle.ssdl_model.proofs.ssdl_sound.shelves_are_meant.Goals as goal

pub returns : goal.returns
returns c = record { meant = refl; keeps = shelves_keep }
