use Rattle.std.proofs.Common.{refl}
use Rattle.csdl_meaning.proofs.examples.SchoolKeeps.{school_keeps}
use Rattle.csdl_meaning.proofs.a_school_is_meant.Goals as goal

pub returns : goal.returns
returns c = record { types = refl; props = refl; keeps = school_keeps }
