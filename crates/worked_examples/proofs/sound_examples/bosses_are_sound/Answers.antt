use Rattle.worked_examples.proofs.sound_examples.mappings.BossesMapped.{hosted_sound, joined_sound}
use Rattle.worked_examples.proofs.sound_examples.stores.SoundStores as stores
use Rattle.worked_examples.proofs.sound_examples.models.Bosses.{sound}
use Rattle.worked_examples.proofs.sound_examples.bosses_are_sound.Goals as goal

pub returns : goal.returns
returns c = record { model = sound; hosted_store = stores.bossed; joined_store = stores.joined; hosted = hosted_sound; joined = joined_sound }
