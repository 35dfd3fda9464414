use Rattle.schema_laws.proofs.sound_forests.Whole.{sound_holds}
use Rattle.schema_laws.proofs.sound_forests.a_sound_forest_is_whole.Goals as goal

pub returns : goal.returns
returns c = record { whole = sound_holds }
