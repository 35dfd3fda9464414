use Rattle.schema_laws.proofs.sound_types.Once.{props_once}
use Rattle.schema_laws.proofs.sound_types.a_sound_type_has_each_property_once.Goals as goal

pub returns : goal.returns
returns c = record { once = λ model t sound. props_once model sound t }
