use Rattle.worked_examples.proofs.sound_examples.models.Lines.{sound}
use Rattle.worked_examples.proofs.sound_examples.lines_are_sound.Goals as goal

pub returns : goal.returns
returns c = record { model = sound }
