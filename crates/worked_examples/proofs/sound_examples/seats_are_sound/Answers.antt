use Rattle.worked_examples.proofs.sound_examples.mappings.SeatsMapped.{sound}
use Rattle.worked_examples.proofs.sound_examples.seats_are_sound.Goals as goal

pub returns : goal.returns
returns c = record { schema = sound }
