use Rattle.msl_fragments.proofs.sound_fragments.SoundFragments.{sound_fragments}
use Rattle.msl_fragments.proofs.sound_fragments.kept_fragments_are_sound.Goals as goal

pub returns : goal.returns
returns c = record { sound = sound_fragments }
