use Rattle.worked_examples.proofs.sound_examples.mappings.PeopleMapped.{people_sound}
use Rattle.worked_examples.proofs.sound_examples.stores.SoundStores as stores
use Rattle.worked_examples.proofs.sound_examples.models.People.{sound}
use Rattle.worked_examples.proofs.sound_examples.people_are_sound.Goals as goal

pub returns : goal.returns
returns c = record { model = sound; store = stores.people; schema = people_sound }
