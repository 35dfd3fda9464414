use Rattle.worked_examples.proofs.sound_examples.mappings.PeopleMapped.{staff_sound}
use Rattle.worked_examples.proofs.sound_examples.stores.SoundStores as stores
use Rattle.worked_examples.proofs.sound_examples.models.Staff.{sound}
use Rattle.worked_examples.proofs.sound_examples.staff_is_sound.Goals as goal

pub returns : goal.returns
returns c = record { model = sound; store = stores.staff; schema = staff_sound }
