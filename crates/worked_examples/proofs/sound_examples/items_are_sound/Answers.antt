use Rattle.worked_examples.proofs.sound_examples.mappings.ItemsMapped.{whole_sound, enum_sound, no_one_level}
use Rattle.worked_examples.proofs.sound_examples.items_are_sound.Goals as goal

pub returns : goal.returns
returns c = record { schema = whole_sound; levels = enum_sound; constant = no_one_level }
