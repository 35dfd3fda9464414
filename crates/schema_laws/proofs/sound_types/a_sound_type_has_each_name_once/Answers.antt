use Rattle.schema_laws.proofs.sound_types.Once.{names_once}
use Rattle.schema_laws.proofs.sound_types.a_sound_type_has_each_name_once.Goals as goal

pub returns : goal.returns
returns c = record { once = λ model t sound. names_once model sound t }
