use Rattle.msl_fragments.proofs.sound_links.SoundLinks.{links_inside, sets_once, sound_links}
use Rattle.msl_fragments.proofs.sound_links.kept_links_are_sound.Goals as goal

pub returns : goal.returns
returns c = record { ids = links_inside; sound = sound_links; once = sets_once }
